-- Rows that are those of sound records, and those that aren't.
use Rattle.std.proofs.Common.{◌≡◌, ℕ, pos, ◌≤◌, ◌<◌, ◌+◌, Bool, true, false, cond, List, [], ◌∷◌, ◌++◌, length, map, take, get_or, Some, None}
use Rattle.std.proofs.Common.{refl, sym, ap, subst, ◌∙◌, true≢false, ⊎_elim}
use Rattle.std.specs.Prelude.{nat_le, ◌&&◌, ◌==◌, bytes_eq, is_some}
use Rattle.std.specs.List.{list_all}
use Rattle.std.specs.List.Sorted.{IsPermutation}
use Rattle.std.proofs.lemmas.Bool.{and_parts, or_cases}
use Rattle.std.proofs.lemmas.List.{map-append}
use Rattle.std.proofs.lemmas.List.Sorted.{IsPermutation-refl, length_permutation}
use Rattle.creds.specs.Names.{is_name, name_of, is_secret}
use Rattle.creds.specs.declared.credential.Credential.{Credential}
use Rattle.creds.specs.declared.credential.Credential.TheVariants as kept
use Rattle.policy.specs.declared.rule.Rule as rule
use Rattle.policy.specs.Policy.{Group, Policy, are_distinct, are_members, is_sound_rule, is_sound_group, is_sound_policy, policy_with}
use Rattle.vault.specs.declared.record.Clerk as vault
use Rattle.vault.specs.Records.{is_sound_clerk, is_sound_credential, most_clerks, most_maildrops}
use Rattle.vault.proofs.ListLemmas.{distinct-map, length-map, all_weaker}
use Rattle.mailsql.specs.declared.rows.Clerk.{Clerk}
use Rattle.mailsql.specs.declared.rows.Rule.{Rule}
use Rattle.mailsql.specs.Columns.{Rows}
use Rattle.mailsql.specs.Rows.{same_int}
use Rattle.mailsql.specs.Apart.{AreApart}
use Rattle.sqlvault.specs.Keeps.{kind_of, secret_of, clerk_row, rule_row, at_place, groups_in, clerks_text, pattern_text, effect_number, actions_number}
use Rattle.sqlvault.specs.Parts.{Finds, ClerksAre, MaildropsAre, GroupsAre, PolicyIs, is_named_group}
use Rattle.sqlvault.specs.RowForms.{is_credential_row, is_clerk_row, are_clerk_rows, are_maildrop_rows}
use Rattle.sqlvault.proofs.PermutationLemmas.{all_permuted}
use Rattle.sqlvault.proofs.ClerkLemmas.{row_made}
use Rattle.sqlvault.proofs.RuleLemmas.{some_same, sound_rules, each_sound}
use Rattle.sqlvault.proofs.SmallLemmas.{both_hold, nat_le-true, le-nat_le, apart_distinct, int_same, take_next}

-- ---- maildrops

maildrops_are : (rows : Rows) → AreApart rows → are_maildrop_rows rows.maildrops ≡ true → MaildropsAre rows rows.maildrops
maildrops_are rows keys e =
    let p = and_parts (nat_le (length rows.maildrops) most_maildrops) (list_all is_name rows.maildrops) e in
    record {
      same = refl;
      sound = p.1;
      apart = sym (apart_distinct bytes_eq rows.maildrops) ∙ keys.maildrops;
      fit = nat_le-true (length rows.maildrops) most_maildrops p.0;
    }

maildrops_sound : (rows : Rows) (names : List (List ℕ)) → MaildropsAre rows names → are_maildrop_rows rows.maildrops ≡ true
maildrops_sound rows names m =
    ap are_maildrop_rows m.same ∙ both_hold (nat_le (length names) most_maildrops) (list_all is_name names) (le-nat_le (length names) most_maildrops m.fit) m.sound

pub maildrops_judged : (rows : Rows) → AreApart rows → (b : Bool) → b ≡ are_maildrop_rows rows.maildrops → Finds (MaildropsAre rows) b
maildrops_judged rows keys true e = (rows.maildrops, maildrops_are rows keys (sym e))
maildrops_judged rows keys false e = λ names m. true≢false (sym (maildrops_sound rows names m) ∙ sym e)

-- ---- clerks

-- the credential of a row
credential_is : (row : Clerk) → is_credential_row row ≡ true → (given : Credential) × (row.kind ≡ kind_of given) × (row.secret ≡ secret_of given) × (is_sound_credential given ≡ true)
credential_is row e =
    let apop = same_int row.kind (pos 1) && is_secret row.secret in
    let pass = same_int row.kind (pos 2) && length row.secret == 32 in
    ⊎_elim
    (λ (h : apop ≡ true). let p = and_parts (same_int row.kind (pos 1)) (is_secret row.secret) h in (kept.Apop row.secret, int_same row.kind (pos 1) p.0, refl, p.1))
    (λ (h : pass ≡ true). let p = and_parts (same_int row.kind (pos 2)) (length row.secret == 32) h in (kept.Pass row.secret, int_same row.kind (pos 2) p.0, refl, p.1))
    (or_cases apop pass e)

clerk_is : (row : Clerk) → is_clerk_row row ≡ true → (x : vault.Clerk) × (row ≡ clerk_row x) × (is_sound_clerk x ≡ true)
clerk_is row e =
    let p = and_parts (is_name row.name) (is_credential_row row) e in
    let f = credential_is row p.1 in
    let x : vault.Clerk = record { name = row.name; credential = f.0 } in
    (x, row_made row.name row.name row.secret row.kind f.0 refl f.1 f.2, both_hold (is_name row.name) (is_sound_credential f.0) p.0 f.3)

-- the row of a credential that is sound
credential_row : (name : List ℕ) (given : Credential) → is_sound_credential given ≡ true → is_credential_row (clerk_row (record { name = name; credential = given })) ≡ true
credential_row name (kept.Apop secret) e = rw e refl
credential_row name (kept.Pass digest) e = e

row_is : (x : vault.Clerk) → is_sound_clerk x ≡ true → is_clerk_row (clerk_row x) ≡ true
row_is x e =
    let p = and_parts (is_name x.name) (is_sound_credential x.credential) e in
    both_hold (is_name x.name) (is_credential_row (clerk_row x)) p.0 (credential_row x.name x.credential p.1)

-- rows of sound clerks are those of a list of them
clerks_are : (rows : List Clerk) → list_all is_clerk_row rows ≡ true → (xs : List vault.Clerk) × (rows ≡ map clerk_row xs) × (list_all is_sound_clerk xs ≡ true)
clerks_are [] e = ([], refl, refl)
clerks_are (row ∷ rows) e =
    let p = and_parts (is_clerk_row row) (list_all is_clerk_row rows) e in
    let x = clerk_is row p.0 in
    let r = clerks_are rows p.1 in
    (x.0 ∷ r.0, λ i. x.1 i ∷ r.1 i, both_hold (is_sound_clerk x.0) (list_all is_sound_clerk r.0) x.2 r.2)

rows_are : (xs : List vault.Clerk) → list_all is_sound_clerk xs ≡ true → list_all is_clerk_row (map clerk_row xs) ≡ true
rows_are [] e = refl
rows_are (x ∷ xs) e =
    let p = and_parts (is_sound_clerk x) (list_all is_sound_clerk xs) e in
    both_hold (is_clerk_row (clerk_row x)) (list_all is_clerk_row (map clerk_row xs)) (row_is x p.0) (rows_are xs p.1)

abbrev same_name : Clerk → Clerk → Bool
same_name x y = bytes_eq x.name y.name

clerks_found : (rows : Rows) → AreApart rows → are_clerk_rows rows.clerks ≡ true → (xs : List vault.Clerk) × ClerksAre rows xs
clerks_found rows keys e =
    let p = and_parts (nat_le (length rows.clerks) most_clerks) (list_all is_clerk_row rows.clerks) e in
    let r = clerks_are rows.clerks p.1 in
    let as_many : length rows.clerks ≡ length r.0 = ap length r.1 ∙ length-map clerk_row r.0 in (
      r.0,
      record {
        same = subst (λ (ys : List Clerk). IsPermutation (map clerk_row r.0) ys) (sym r.1) (IsPermutation-refl (map clerk_row r.0));
        sound = r.2;
        apart = sym (distinct-map clerk_row same_name r.0) ∙ ap (are_distinct same_name) (sym r.1) ∙ sym (apart_distinct same_name rows.clerks) ∙ keys.clerks;
        fit = subst (λ n. n ≤ most_clerks) as_many (nat_le-true (length rows.clerks) most_clerks p.0);
      },
    )

clerks_sound : (rows : Rows) (xs : List vault.Clerk) → ClerksAre rows xs → are_clerk_rows rows.clerks ≡ true
clerks_sound rows xs m =
    let as_many : length rows.clerks ≡ length xs = length_permutation (map clerk_row xs) rows.clerks m.same ∙ length-map clerk_row xs in
    both_hold (nat_le (length rows.clerks) most_clerks) (list_all is_clerk_row rows.clerks)
    (le-nat_le (length rows.clerks) most_clerks (subst (λ n. n ≤ most_clerks) (sym as_many) m.fit))
    (sym (all_permuted is_clerk_row (map clerk_row xs) rows.clerks m.same) ∙ rows_are xs m.sound)

pub clerks_judged : (rows : Rows) → AreApart rows → (b : Bool) → b ≡ are_clerk_rows rows.clerks → Finds (ClerksAre rows) b
clerks_judged rows keys true e = clerks_found rows keys (sym e)
clerks_judged rows keys false e = λ xs m. true≢false (sym (clerks_sound rows xs m) ∙ sym e)

-- ---- rules

-- a text that was read as a name is that name
pub name_was : (text name : List ℕ) → name_of text ≡ Some name → text ≡ name
name_was text name e = at (is_name text) e
  where
    at : (b : Bool) → cond b (Some text) None ≡ Some name → text ≡ name
    at true e = cc
    at false e = absurd (cc)

-- a row that was read is the rule's
pub row_read : (row : Rule) (r : rule.Rule) → row.name ≡ r.name → row.effect ≡ effect_number r.effect → row.clerk ≡ clerks_text r.clerk → row.maildrop ≡ pattern_text r.maildrop
    → row.class ≡ pattern_text r.class → row.actions ≡ actions_number r.actions → at_place (pos 0) row ≡ rule_row (pos 0) r
row_read row r a b d e f h i =
    let made : Rule = record { place = pos 0; name = a i; effect = b i; clerk = d i; maildrop = e i; class = f i; actions = h i } in made

-- a row more that was read
pub rows_more : (rows : List Rule) (items grown : List rule.Rule) (i : ℕ) (row : Rule) (r : rule.Rule) → i < length rows → row ≡ get_or rows i row → at_place (pos 0) row ≡ rule_row (pos 0) r
    → grown ≡ items ++ r ∷ [] → map (at_place (pos 0)) (take i rows) ≡ map (rule_row (pos 0)) items → map (at_place (pos 0)) (take (i + 1) rows) ≡ map (rule_row (pos 0)) grown
rows_more rows items grown i row r lt is same grows held =
    ap (map (at_place (pos 0))) (take_next rows i row lt is) ∙ map-append (at_place (pos 0)) (take i rows) (row ∷ []) ∙ ap (λ l. l ++ at_place (pos 0) row ∷ []) held
    ∙ ap (λ x. map (rule_row (pos 0)) items ++ x ∷ []) same ∙ sym (map-append (rule_row (pos 0)) items (r ∷ [])) ∙ ap (map (rule_row (pos 0))) (sym grows)

pub items_more : (rs items grown : List rule.Rule) (i : ℕ) (r s : rule.Rule) → i < length rs → s ≡ get_or rs i s → Some r ≡ Some s
    → grown ≡ items ++ r ∷ [] → items ≡ take i rs → grown ≡ take (i + 1) rs
items_more rs items grown i r s lt is read grows held =
    grows ∙ ap (λ x. items ++ x ∷ []) (some_same (Some r) r s refl read) ∙ ap (λ l. l ++ s ∷ []) held ∙ sym (take_next rs i s lt is)

-- these groups and rows are those of this policy
abbrev pub IsPolicyOf : List Group → List Rule → Policy → Type 0
IsPolicyOf groups rows p = (groups ≡ p.groups) × (map (at_place (pos 0)) rows ≡ map (rule_row (pos 0)) p.rules) × (is_sound_policy p ≡ true)

-- if the rows have been read, the groups and the rules are known
pub read_judged : (groups : List Group) (rows : List Rule) (items : List rule.Rule) (b : Bool) → map (at_place (pos 0)) rows ≡ map (rule_row (pos 0)) items
    → ((rs : List rule.Rule) → list_all is_sound_rule rs ≡ true → map (at_place (pos 0)) rows ≡ map (rule_row (pos 0)) rs → items ≡ rs)
    → b ≡ is_some (policy_with groups items) → Finds (IsPolicyOf groups rows) b
read_judged groups rows items b held all e = at (is_sound_policy (record { groups = groups; rules = items })) b refl e
  where
    at : (s b : Bool) → is_sound_policy (record { groups = groups; rules = items }) ≡ s
        → b ≡ is_some (let p : Policy = record { groups = groups; rules = items } in cond s (Some p) None) → Finds (IsPolicyOf groups rows) b
    at true true f e = (record { groups = groups; rules = items }, (refl, held, f))
    at true false f e = absurd (true≢false (sym e))
    at false true f e = absurd (true≢false e)
    at false false f e = λ p m. true≢false (sym m.2 ∙ ap is_sound_policy (λ i. let made : Policy = record { groups = sym m.0 i; rules = sym (all p.rules (sound_rules p m.2) m.1) i } in made) ∙ f)

-- if a row is no sound rule's, there is no policy
pub none_judged : (groups : List Group) (rows : List Rule)
    → ((rs : List rule.Rule) → list_all is_sound_rule rs ≡ true → map (at_place (pos 0)) rows ≡ map (rule_row (pos 0)) rs → ⊥) → Finds (IsPolicyOf groups rows) false
none_judged groups rows none = λ p m. none p.rules (sound_rules p m.2) m.1

-- rows that were read are those of the store
pub policy_judged : (rows : Rows) (groups : List Group) (read : List Rule) (b : Bool) → groups ≡ groups_in rows → read ≡ rows.rules → Finds (IsPolicyOf groups read) b → Finds (PolicyIs rows) b
policy_judged rows groups read true are same f = (f.0, record { groups = sym are ∙ f.1.0; same = ap (map (at_place (pos 0))) (sym same) ∙ f.1.1; sound = f.1.2 })
policy_judged rows groups read false are same f = λ p m. f p (are ∙ m.groups, ap (map (at_place (pos 0))) same ∙ m.same, m.sound)

-- groups that were read
pub groups_read : (rows : Rows) (groups : List Group) → groups ≡ groups_in rows → list_all is_named_group groups ≡ true → Finds (GroupsAre rows) true
groups_read rows groups are named = (groups, record { same = sym are; named = named })

-- groups that weren't, since a name hasn't its form
pub no_groups : (rows : Rows) → (list_all is_named_group (groups_in rows) ≡ true → ⊥) → Finds (GroupsAre rows) false
no_groups rows none = λ groups are. none (ap (list_all is_named_group) are.same ∙ are.named)

-- the groups of a policy
pub policy_groups : (rows : Rows) (p : Policy) → PolicyIs rows p → GroupsAre rows p.groups
policy_groups rows p is = record {
  same = is.groups;
  named = all_weaker is_sound_group is_named_group p.groups (λ g i e. (and_parts (is_named_group g) (are_members g.members) e).0) (each_sound p is.sound);
}
