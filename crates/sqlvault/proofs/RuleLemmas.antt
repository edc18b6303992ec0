-- Rules as rows.
use Rattle.std.proofs.Common.{◌≡◌, ℕ, ◌<◌, ◌≤◌, arith, take, drop, length, get_or, pos, append_assoc, append-nil, Bool, true, false, cond, ◌||◌, not, List, [], ◌∷◌, ◌++◌, map}
use Rattle.std.proofs.Common.{Option, Some, None, refl, sym, ap, subst, ◌∙◌, true≢false}
use Rattle.std.proofs.lemmas.Bool.{and_parts}
use Rattle.std.specs.List.{list_all}
use Rattle.std.proofs.lemmas.Bool.Decides.{nat_tests}
use Rattle.std.proofs.lemmas.List.{map-append, take-append-drop, length-map, get_or-map, get_or_default}
use Rattle.creds.specs.Names.{is_name, has_length, name_of}
use Rattle.policy.specs.declared.rule.Actions.{Actions}
use Rattle.policy.specs.declared.rule.Clerks.{Clerks}
use Rattle.policy.specs.declared.rule.Clerks.TheVariants as clerks
use Rattle.policy.specs.declared.rule.Effect.{Effect}
use Rattle.policy.specs.declared.rule.Effect.TheVariants.{Allow}
use Rattle.policy.specs.declared.rule.Pattern.{Pattern}
use Rattle.policy.specs.declared.rule.Pattern.TheVariants.{Any}
use Rattle.policy.specs.declared.rule.Rule as rule
use Rattle.policy.specs.Policy.{is_sound_rule, are_clerks, is_pattern, lists_any, is_any, policy_with, are_sound_groups, are_sound_rules, know_groups, is_sound_group, are_distinct}
use Rattle.policy.specs.Policy.{same_group, most_rules, most_groups}
use Rattle.std.specs.Prelude.{nat_le, ◌&&◌, codes, bytes_eq}
use Rattle.std.specs.Option.{option_map}
use Rattle.vault.proofs.ListLemmas.{bytes_are}
use Rattle.vault.specs.Changes.{Contents, AreSound, with_policy}
use Rattle.std.specs.List.Sorted.{IsPermutation}
use Rattle.std.specs.Prelude.{flat_map}
use Rattle.policy.specs.Policy.{Policy, is_sound_policy}
use Rattle.policy.specs.PolicyText.{clerks_named}
use Rattle.mailsql.specs.declared.rows.Rule.{Rule}
use Rattle.mailsql.specs.Columns.{Rows}
use Rattle.mailsql.specs.Changes as changes
use Rattle.sqlvault.specs.Keeps.{Keeps, clerk_row, count_in, message_sheets, rule_row, at_place, groups_in, clerks_text, pattern_text, effect_number, actions_number}
use Rattle.sqlvault.specs.Rules.{AddsRules, SetsRules, SetsPolicy}
use Rattle.sqlvault.proofs.GroupLemmas.{groups_told}

-- ---- a row that is read

pub some_same : {A : Type 0} (o : Option A) (x y : A) → o ≡ Some x → o ≡ Some y → x ≡ y
some_same {A} o x y a b = ap value (sym a ∙ b)
  where
    value : Option A → A
    value (Some z) = z
    value None = x

-- nothing was read, if something was there to read
pub never : {A : Type 0} (P : Type 0) (o : Option A) (x : A) → o ≡ None → o ≡ Some x → P
never P o x none some = absurd (none_some (sym none ∙ some))
  where
    none_some : {B : Type 0} {y : B} → (let n : Option B = None in n ≡ Some y) → ⊥
    none_some e = cc

pub name_read : (text : List ℕ) → is_name text ≡ true → name_of text ≡ Some text
name_read text e = ap (λ b. cond b (Some text) None) e

-- a text that begins with `@` is no name
pub at_no_name : (text : List ℕ) → bytes_eq (take 1 text) (codes "@") ≡ true → is_name text ≡ false
at_no_name [] e = absurd (true≢false (sym e))
at_no_name (x ∷ xs) e =
    let same : x ∷ [] ≡ codes "@" = bytes_are (x ∷ []) (codes "@") e in
    let first : x ≡ 64 = ap (λ (l : List ℕ). get_or l 0 x) same in
    ap (λ n. is_name (n ∷ xs)) first ∙ never_both (has_length 1 32 (64 ∷ xs))
  where
    never_both : (b : Bool) → (b && false) ≡ false
    never_both true = refl
    never_both false = refl

-- the text that clerks were read of is theirs
pub clerks_were : (text : List ℕ) (c : Clerks) → clerks_named text ≡ Some c → text ≡ clerks_text c
clerks_were text c e = at (bytes_eq text (codes "*")) (bytes_eq (take 1 text) (codes "@")) refl refl e
  where
    member : (b : Bool) → bytes_eq (take 1 text) (codes "@") ≡ true → option_map clerks.MembersOf (cond b (Some (drop 1 text)) None) ≡ Some c → text ≡ clerks_text c
    member true g h =
        sym (take-append-drop 1 text) ∙ ap (λ l. l ++ drop 1 text) (bytes_are (take 1 text) (codes "@") g)
        ∙ ap clerks_text (some_same (Some (clerks.MembersOf (drop 1 text))) (clerks.MembersOf (drop 1 text)) c refl h)
    member false g h = absurd (cc)

    one : (b : Bool) → option_map clerks.Is (cond b (Some text) None) ≡ Some c → text ≡ clerks_text c
    one true h = ap clerks_text (some_same (Some (clerks.Is text)) (clerks.Is text) c refl h)
    one false h = absurd (cc)

    at : (any group : Bool) → bytes_eq text (codes "*") ≡ any → bytes_eq (take 1 text) (codes "@") ≡ group
        → cond any (Some clerks.Any) (cond group (option_map clerks.MembersOf (name_of (drop 1 text))) (option_map clerks.Is (name_of text))) ≡ Some c → text ≡ clerks_text c
    at true group f g h = bytes_are text (codes "*") f ∙ ap clerks_text (some_same (Some clerks.Any) clerks.Any c refl h)
    at false true f g h = member (is_name (drop 1 text)) g h
    at false false f g h = one (is_name text) h

-- and clerks are read of their text
clerks_back : (c : Clerks) → are_clerks c ≡ true → clerks_named (clerks_text c) ≡ Some c
clerks_back clerks.Any form = refl
clerks_back (clerks.MembersOf name) form = ap (option_map clerks.MembersOf) (name_read name form)
clerks_back (clerks.Is name) form = at (bytes_eq name (codes "*")) (bytes_eq (take 1 name) (codes "@")) refl refl
  where
    at : (any group : Bool) → bytes_eq name (codes "*") ≡ any → bytes_eq (take 1 name) (codes "@") ≡ group
        → cond any (Some clerks.Any) (cond group (option_map clerks.MembersOf (name_of (drop 1 name))) (option_map clerks.Is (name_of name))) ≡ Some (clerks.Is name)
    at true group f g = absurd (true≢false (sym form ∙ ap is_name (bytes_are name (codes "*") f)))
    at false true f g = absurd (true≢false (sym form ∙ at_no_name name g))
    at false false f g = ap (option_map clerks.Is) (name_read name form)

pub clerks_read : (text : List ℕ) (c : Clerks) → are_clerks c ≡ true → text ≡ clerks_text c → clerks_named text ≡ Some c
clerks_read text c form is = ap clerks_named is ∙ clerks_back c form

-- the parts of a sound rule that a row has
pub record Parts (r : rule.Rule) : Type 0 where
  pub name : is_name r.name ≡ true
  pub clerk : are_clerks r.clerk ≡ true
  pub maildrop : is_pattern r.maildrop ≡ true
  pub class : is_pattern r.class ≡ true

pub parts : (r : rule.Rule) → is_sound_rule r ≡ true → Parts r
parts r sound =
    let a = and_parts _ (not r.actions.open || is_any r.class) sound in
    let b = and_parts _ (lists_any r.actions) a.0 in
    let d = and_parts _ (is_pattern r.class) b.0 in
    let e = and_parts _ (is_pattern r.maildrop) d.0 in
    let f = and_parts _ (are_clerks r.clerk) e.0 in
    let h = and_parts (is_name r.name) _ f.0 in
    record { name = h.0; clerk = f.1; maildrop = e.1; class = d.1 }

pub rule_is : (r : rule.Rule) (name : List ℕ) (effect : Effect) (clerk : Clerks) (maildrop class : Pattern) (actions : Actions)
    → name ≡ r.name → effect ≡ r.effect → clerk ≡ r.clerk → maildrop ≡ r.maildrop → class ≡ r.class → actions ≡ r.actions
    → (let made : rule.Rule = record { name = name; effect = effect; clerk = clerk; maildrop = maildrop; class = class; actions = actions } in Some made ≡ Some r)
rule_is r name effect clerk maildrop class actions a b d e f h i =
    let made : rule.Rule = record { name = a i; effect = b i; clerk = d i; maildrop = e i; class = f i; actions = h i } in Some made

-- ---- rules that come

-- a rule more, wherever it stands
pub added_one : (r : rule.Rule) (old new : Rows)
    → changes.AddsRule r.name (effect_number r.effect) (clerks_text r.clerk) (pattern_text r.maildrop) (pattern_text r.class) (actions_number r.actions) old new → AddsRules (r ∷ []) old new
added_one r old new is = record {
  added = ap (λ (x : Rows). map (at_place (pos 0)) x.rules) is ∙ map-append (at_place (pos 0)) old.rules (rule_row (changes.next_place old.rules) r ∷ []);
  others = is ∙ ap (λ (l : List Rule). let x : Rows = record old { rules = l } in x) (sym (ap (λ (x : Rows). x.rules) is));
}

pub none_added : (rows : Rows) → AddsRules [] rows rows
none_added rows = record { added = sym (append-nil (map (at_place (pos 0)) rows.rules)); others = refl }

pub added_more : (rs others : List rule.Rule) (old mid new : Rows) → AddsRules rs old mid → AddsRules others mid new → AddsRules (rs ++ others) old new
added_more rs others old mid new a b = record {
  added = b.added ∙ ap (λ l. l ++ map (rule_row (pos 0)) others) a.added ∙ append_assoc (map (at_place (pos 0)) old.rules) (map (rule_row (pos 0)) rs) (map (rule_row (pos 0)) others)
      ∙ ap (λ l. map (at_place (pos 0)) old.rules ++ l) (sym (map-append (rule_row (pos 0)) rs others));
  others = b.others ∙ ap (λ (m : Rows). let x : Rows = record m { rules = new.rules } in x) a.others;
}

-- after all were taken out
pub set : (rs : List rule.Rule) (old mid new : Rows) → changes.ClearsRules old mid → AddsRules rs mid new → SetsRules rs old new
set rs old mid new cleared a = record {
  set = a.added ∙ ap (λ (m : Rows). map (at_place (pos 0)) m.rules ++ map (rule_row (pos 0)) rs) cleared;
  others = a.others ∙ ap (λ (m : Rows). let x : Rows = record m { rules = new.rules } in x) cleared;
}

-- ---- walks over lists

pub as_many : (rows : List Rule) (rs : List rule.Rule) → map (at_place (pos 0)) rows ≡ map (rule_row (pos 0)) rs → length rows ≡ length rs
as_many rows rs same = sym (length-map rows (at_place (pos 0))) ∙ ap length same ∙ length-map rs (rule_row (pos 0))

some_rule : rule.Rule
some_rule = record { name = []; effect = Allow; clerk = clerks.Any; maildrop = Any; class = Any; actions = record { «open» = false; read = false; remove = false } }

-- the row at a place is that of the rule there
pub row_at : (rows : List Rule) (rs : List rule.Rule) (i : ℕ) (row : Rule) → i < length rows → row ≡ get_or rows i row → map (at_place (pos 0)) rows ≡ map (rule_row (pos 0)) rs
    → (r : rule.Rule) × (i < length rs) × (at_place (pos 0) row ≡ rule_row (pos 0) r) × (r ≡ get_or rs i r)
row_at rows rs i row lt is same =
    let lt2 : i < length rs = subst (λ n. i < n) (as_many rows rs same) lt in
    let d = some_rule in (
      get_or rs i d,
      lt2,
      ap (at_place (pos 0)) is ∙ sym (get_or-map (at_place (pos 0)) rows i row (at_place (pos 0) row) lt) ∙ ap (λ l. get_or l i (at_place (pos 0) row)) same
          ∙ get_or-map (rule_row (pos 0)) rs i d (at_place (pos 0) row) lt2,
      get_or_default rs i d (get_or rs i d) lt2,
    )

-- ---- the policy that is held

-- sound records under another sound policy
sound_set : (p : Policy) (c : Contents) → is_sound_policy p ≡ true → AreSound c → AreSound (with_policy p c)
sound_set p c ok s =
    let b = s.records in
    record {
      records = record {
        clerks = b.clerks;
        clerks_apart = b.clerks_apart;
        clerks_fit = b.clerks_fit;
        maildrops = b.maildrops;
        maildrops_apart = b.maildrops_apart;
        maildrops_fit = b.maildrops_fit;
        messages = b.messages;
        messages_apart = b.messages_apart;
        messages_fit = b.messages_fit;
        deposits = b.deposits;
        ids_apart = b.ids_apart;
        uids_apart = b.uids_apart;
        policy = ok;
      };
      keys = s.keys;
    }

-- the policy set
pub keeps_set : (p : Policy) (old new : Rows) (c : Contents) → is_sound_policy p ≡ true → SetsPolicy p old new → Keeps old c → Keeps new (with_policy p c)
keeps_set p old new c sound s keeps =
    let set = s.2 in
    let all : new ≡ record old { groups = new.groups; members = new.members; rules = new.rules } =
    set.others ∙ ap (λ (m : Rows). let x : Rows = record m { rules = new.rules } in x) s.1
    ∙ ap (λ (m : Rows). let x : Rows = record old { groups = m.groups; members = m.members; rules = new.rules } in x)
    (sym (set.others ∙ ap (λ (m : Rows). let x : Rows = record m { rules = new.rules } in x) s.1)) in
    record {
      meta_row = ap (λ (x : Rows). x.meta_rows) all ∙ keeps.meta_row;
      clerks = subst (λ l. IsPermutation (map clerk_row c.clerks) l) (sym (ap (λ (x : Rows). x.clerks) all)) keeps.clerks;
      maildrops = ap (λ (x : Rows). x.maildrops) all ∙ keeps.maildrops;
      counts = λ d class. ap (λ (x : Rows). count_in d class x.counts) all ∙ keeps.counts d class;
      deposits = ap (λ (x : Rows). x.deposits) all ∙ keeps.deposits;
      messages = ap (λ (x : Rows). x.messages) all ∙ keeps.messages;
      sheets = subst (λ l. IsPermutation (flat_map message_sheets c.messages) l) (sym (ap (λ (x : Rows). x.sheets) all)) keeps.sheets;
      groups = ap (λ (x : Rows). groups_in x) set.others ∙ ap (λ (x : Rows). groups_in x) s.1 ∙ groups_told p.groups;
      rules = set.set;
      keys = keeps.keys;
      sound = sound_set p c sound keeps.sound;
    }

pub policy_read : (p : Policy) → is_sound_policy p ≡ true → policy_with p.groups p.rules ≡ Some p
policy_read p sound = ap (λ b. cond b (Some p) None) sound

pub sound_rules : (p : Policy) → is_sound_policy p ≡ true → list_all is_sound_rule p.rules ≡ true
sound_rules p sound =
    let rules = (and_parts (are_sound_groups p.groups) (are_sound_rules p.rules) (and_parts (are_sound_groups p.groups && are_sound_rules p.rules) (know_groups p.groups p.rules) sound).0).1 in
    (and_parts (list_all is_sound_rule p.rules) _ (and_parts _ (nat_le (length p.rules) most_rules) rules).0).0

pub sound_groups : (p : Policy) → is_sound_policy p ≡ true → are_sound_groups p.groups ≡ true
sound_groups p sound = (and_parts (are_sound_groups p.groups) (are_sound_rules p.rules) (and_parts (are_sound_groups p.groups && are_sound_rules p.rules) (know_groups p.groups p.rules) sound).0).0

pub few_groups : (p : Policy) → is_sound_policy p ≡ true → length p.groups ≤ most_groups
few_groups p sound = few (length p.groups) (and_parts (list_all is_sound_group p.groups && are_distinct same_group p.groups) (nat_le (length p.groups) most_groups) (sound_groups p sound)).1
  where
    few : (n : ℕ) → nat_le n 100 ≡ true → n ≤ 100
    few n h = grind (arith, nat_tests)

pub each_sound : (p : Policy) → is_sound_policy p ≡ true → list_all is_sound_group p.groups ≡ true
each_sound p sound = (and_parts (list_all is_sound_group p.groups) _ (and_parts _ (nat_le (length p.groups) most_groups) (sound_groups p sound)).0).0

-- the rows that were read are those of the held rules
pub read_held : (read : List Rule) (rows : Rows) (c : Contents) → read ≡ rows.rules → Keeps rows c → map (at_place (pos 0)) read ≡ map (rule_row (pos 0)) c.policy.rules
read_held read rows c same keeps = ap (map (at_place (pos 0))) same ∙ keeps.rules
