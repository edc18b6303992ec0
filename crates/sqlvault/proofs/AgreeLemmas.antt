-- Two contents that the same rows describe say the same: rows fix all but the order of the clerks.
use Rattle.std.proofs.Common.{◌≡◌, inl, inr, ℕ, zero, suc, ◌+◌, ◌*◌, ◌<◌, ◌≤◌, ◌^◌, ℤ, pos, negsuc, Bool, true, false, cond, List, [], ◌∷◌, ◌++◌, length, take, drop, map, Option}
use Rattle.std.proofs.Common.{Some, None, refl, sym, ap, ◌∙◌, arith, true≢false, w64, length-drop}
use Rattle.std.specs.Prelude.{nat_lt, codes, find, bytes_eq}
use Rattle.std.specs.Option.{option_map}
use Rattle.std.specs.List.{list_all}
use Rattle.std.specs.List.Sorted.{IsPermutation}
use Rattle.std.proofs.lemmas.Bool.{and_parts}
use Rattle.std.proofs.lemmas.List.{take-append-drop, drop-drop, drop_all}
use Rattle.std.proofs.lemmas.List.Sorted.{IsPermutation-map}
use Rattle.std.proofs.Math.Facts.{to_z_inj}
use Rattle.std.proofs.lemmas.Grind.{div_ceil_times}
use Rattle.sqlite_trees.proofs.ListLemmas.{along_permutation}
use Rattle.creds.specs.Names.{is_name, put_by_name, by_name}
use Rattle.creds.specs.declared.credential.Credential.{Credential}
use Rattle.creds.specs.declared.credential.Credential.TheVariants as kept
use Rattle.policy.specs.declared.rule.Actions.{Actions}
use Rattle.policy.specs.declared.rule.Clerks.{Clerks}
use Rattle.policy.specs.declared.rule.Clerks.TheVariants as clerks
use Rattle.policy.specs.declared.rule.Effect.{Effect}
use Rattle.policy.specs.declared.rule.Effect.TheVariants.{Allow, Deny}
use Rattle.policy.specs.declared.rule.Pattern.{Pattern}
use Rattle.policy.specs.declared.rule.Pattern.TheVariants.{Any, Is}
use Rattle.policy.specs.declared.rule.Rule as policy
use Rattle.policy.specs.Policy.{Policy, are_clerks, is_pattern, is_sound_rule}
use Rattle.vault.specs.declared.record.Clerk as vault
use Rattle.vault.specs.declared.record.Keyed.{Keyed}
use Rattle.vault.specs.declared.record.Receipt.{Receipt}
use Rattle.vault.specs.Records.{in_maildrop, receipts_of, receipt_of, class_count, credential_in}
use Rattle.vault.specs.Changes.{Contents}
use Rattle.vault.specs.Calls.{text_under}
use Rattle.vault.specs.Stops.{SaySame}
use Rattle.vault.proofs.ListLemmas.{In, all_in, bytes_are}
use Rattle.vault.proofs.OrderLemmas.{puts_commute}
use Rattle.mailsql.specs.declared.rows.Clerk.{Clerk}
use Rattle.mailsql.specs.declared.rows.Deposit.{Deposit}
use Rattle.mailsql.specs.declared.rows.Message.{Message}
use Rattle.mailsql.specs.declared.rows.Rule.{Rule}
use Rattle.mailsql.specs.declared.rows.Sheet.{Sheet}
use Rattle.mailsql.specs.Columns.{Rows}
use Rattle.mailsql.specs.Rows.{rows_in, is_clerk, is_sheet, same_int}
use Rattle.mailsql.specs.Sheets.{octets_at, sheet_count}
use Rattle.sqlite_trees.specs.Tree.{Trees}
use Rattle.sqlite.specs.State.{State}
use Rattle.sqlvault.specs.Stops.{MayHold}
use Rattle.sqlvault.specs.Keeps.{Keeps, kind_of, secret_of, clerk_row, deposit_row, row_key, message_row, effect_number, clerks_text, pattern_text, actions_number, rule_row}
use Rattle.sqlvault.proofs.ClerkLemmas.{found_rows}
use Rattle.sqlvault.proofs.PageLemmas.{text_is, sheet_read, no_sheet}
use Rattle.sqlvault.proofs.RuleLemmas.{parts, sound_rules, at_no_name}
use Rattle.sqlvault.proofs.SmallLemmas.{nat_lt-true}

-- ---- clerks

pub by_name_permuted : (xs ys : List (List ℕ)) → IsPermutation xs ys → by_name xs ≡ by_name ys
by_name_permuted = along_permutation (λ xs ys. by_name xs ≡ by_name ys) (λ xs. refl) (λ x xs ys h. ap (put_by_name x) h) (λ x y xs. puts_commute x y (by_name xs)) (λ xs ys zs h k. h ∙ k)

pub names_are : (cs : List vault.Clerk) → map (λ (c : vault.Clerk). c.name) cs ≡ map (λ (r : Clerk). r.name) (map clerk_row cs)
names_are [] = refl
names_are (x ∷ xs) = ap (λ l. x.name ∷ l) (names_are xs)

pub names_told : (rows : Rows) (c : Contents) → Keeps rows c → by_name (map (λ (x : vault.Clerk). x.name) c.clerks) ≡ by_name (map (λ (r : Clerk). r.name) rows.clerks)
names_told rows c k =
    ap by_name (names_are c.clerks)
    ∙ by_name_permuted (map (λ (r : Clerk). r.name) (map clerk_row c.clerks)) (map (λ (r : Clerk). r.name) rows.clerks)
    (IsPermutation-map (λ (r : Clerk). r.name) (map clerk_row c.clerks) rows.clerks k.clerks)

credential_back : Clerk → Credential
credential_back r = cond (same_int r.kind (pos 1)) (kept.Apop r.secret) (kept.Pass r.secret)

credential_same : (x : vault.Clerk) → x.credential ≡ credential_back (clerk_row x)
unfolding credential_back
credential_same x = go x.credential
  where
    go : (c : Credential) → c ≡ cond (same_int (kind_of c) (pos 1)) (kept.Apop (secret_of c)) (kept.Pass (secret_of c))
    go (kept.Apop s) = refl
    go (kept.Pass d) = refl

credential_told : (rows : Rows) (c : Contents) (name : List ℕ) → Keeps rows c → credential_in name c.clerks ≡ option_map credential_back (find (is_clerk name) rows.clerks)
credential_told rows c name k = at (find (λ (x : vault.Clerk). bytes_eq x.name name) c.clerks) ∙ ap (λ o. option_map credential_back o) (sym (found_rows rows c name k))
  where
    at : (o : Option vault.Clerk) → option_map (λ (x : vault.Clerk). x.credential) o ≡ option_map credential_back (option_map clerk_row o)
    at None = refl
    at (Some x) = ap Some (credential_same x)

-- ---- deposits

num_back : ℤ → ℕ
num_back (pos n) = n
num_back (negsuc n) = 0

receipt_back : Deposit → Receipt
receipt_back r = record { maildrop = r.maildrop; id = r.id; class = r.class; k = num_back r.k; digest = r.digest }

receipts_back : (rs : List Receipt) → map receipt_back (map deposit_row rs) ≡ rs
unfolding receipt_back num_back
receipts_back [] = refl
receipts_back (r ∷ rs) = ap (λ l. r ∷ l) (receipts_back rs)

deposits_same : (rows : Rows) (a b : Contents) → Keeps rows a → Keeps rows b → a.deposits ≡ b.deposits
deposits_same rows a b j k = sym (receipts_back a.deposits) ∙ ap (map receipt_back) (sym j.deposits ∙ k.deposits) ∙ receipts_back b.deposits

-- ---- rules

pattern_back : List ℕ → Pattern
pattern_back text = cond (bytes_eq text (codes "*")) Any (Is text)

pattern_same : (p : Pattern) → is_pattern p ≡ true → pattern_back (pattern_text p) ≡ p
unfolding pattern_back
pattern_same Any form = refl
pattern_same (Is name) form = go (bytes_eq name (codes "*")) refl
  where
    go : (b : Bool) → bytes_eq name (codes "*") ≡ b → cond b Any (Is name) ≡ Is name
    go false e = refl
    go true e = absurd (true≢false (sym form ∙ ap is_name (bytes_are name (codes "*") e)))

clerks_back : List ℕ → Clerks
clerks_back text = cond (bytes_eq text (codes "*")) clerks.Any (cond (bytes_eq (take 1 text) (codes "@")) (clerks.MembersOf (drop 1 text)) (clerks.Is text))

clerks_same : (x : Clerks) → are_clerks x ≡ true → clerks_back (clerks_text x) ≡ x
unfolding clerks_back
clerks_same clerks.Any form = refl
clerks_same (clerks.MembersOf name) form = refl
clerks_same (clerks.Is name) form = go (bytes_eq name (codes "*")) refl
  where
    named : (b : Bool) → bytes_eq (take 1 name) (codes "@") ≡ b → cond b (clerks.MembersOf (drop 1 name)) (clerks.Is name) ≡ clerks.Is name
    named false e = refl
    named true e = absurd (true≢false (sym (form) ∙ at_no_name name e))

    go : (b : Bool) → bytes_eq name (codes "*") ≡ b → cond b clerks.Any (cond (bytes_eq (take 1 name) (codes "@")) (clerks.MembersOf (drop 1 name)) (clerks.Is name)) ≡ clerks.Is name
    go false e = named (bytes_eq (take 1 name) (codes "@")) refl
    go true e = absurd (true≢false (sym form ∙ ap is_name (bytes_are name (codes "*") e)))

effect_back : ℤ → Effect
effect_back n = cond (same_int n (pos 1)) Allow Deny

effect_same : (e : Effect) → effect_back (effect_number e) ≡ e
unfolding effect_back
effect_same Allow = refl
effect_same Deny = refl

acts : (opened read removed : Bool) → Actions
acts opened read removed = record { «open» = opened; read = read; remove = removed }

actions_back : ℤ → Actions
actions_back n =
    cond (same_int n (pos 0)) (acts false false false)
    (cond (same_int n (pos 1)) (acts true false false)
    (cond (same_int n (pos 2)) (acts false true false)
    (cond (same_int n (pos 3)) (acts true true false)
    (cond (same_int n (pos 4)) (acts false false true)
    (cond (same_int n (pos 5)) (acts true false true)
    (cond (same_int n (pos 6)) (acts false true true) (acts true true true)))))))

actions_same : (a : Actions) → actions_back (actions_number a) ≡ a
unfolding actions_back acts
actions_same a = go a.open a.read a.remove
  where
    go : (x y z : Bool) → (let m : Actions = record { «open» = x; read = y; remove = z } in actions_back (actions_number m) ≡ m)
    go true true true = refl
    go true true false = refl
    go true false true = refl
    go true false false = refl
    go false true true = refl
    go false true false = refl
    go false false true = refl
    go false false false = refl

rule_back : Rule → policy.Rule
rule_back r = record { name = r.name; effect = effect_back r.effect; clerk = clerks_back r.clerk; maildrop = pattern_back r.maildrop; class = pattern_back r.class; actions = actions_back r.actions }

rule_same : (r : policy.Rule) → is_sound_rule r ≡ true → rule_back (rule_row (pos 0) r) ≡ r
unfolding rule_back
rule_same r sound =
    let p = parts r sound in
    let a = effect_same r.effect in
    let b = clerks_same r.clerk p.clerk in
    let d = pattern_same r.maildrop p.maildrop in
    let e = pattern_same r.class p.class in
    let f = actions_same r.actions in
    λ i. let made : policy.Rule = record { name = r.name; effect = a i; clerk = b i; maildrop = d i; class = e i; actions = f i } in made

rules_back : (rs : List policy.Rule) → list_all is_sound_rule rs ≡ true → map rule_back (map (rule_row (pos 0)) rs) ≡ rs
rules_back [] sound = refl
rules_back (r ∷ rs) sound =
    let s = and_parts (is_sound_rule r) (list_all is_sound_rule rs) sound in
    let h = rule_same r s.0 in
    let t = rules_back rs s.1 in
    cc

policy_same : (rows : Rows) (a b : Contents) → Keeps rows a → Keeps rows b → a.policy ≡ b.policy
policy_same rows a b j k =
    let groups = sym j.groups ∙ k.groups in
    let rules = sym (rules_back a.policy.rules (sound_rules a.policy j.sound.records.policy)) ∙ ap (map rule_back) (sym j.rules ∙ k.rules)
    ∙ rules_back b.policy.rules (sound_rules b.policy k.sound.records.policy) in
    λ i. let p : Policy = record { groups = groups i; rules = rules i } in p

-- ---- texts

beyond : (text : List ℕ) (place : ℕ) → sheet_count text ≤ place → octets_at text place ≡ []
beyond text place h =
    let e = div_ceil_times (length text) 4096 (omega arith) in
    let far : length text ≤ place * 4096 = omega (arith, e) in
    ap (take 4096) (drop_all (place * 4096) text far)

pieces_same : (n : ℕ) (s t : List ℕ) → length s ≤ n * 4096 → length t ≤ n * 4096 → ((place : ℕ) → octets_at s place ≡ octets_at t place) → s ≡ t
pieces_same zero [] [] h k same = refl
pieces_same zero [] (y ∷ ys) h k same = absurd (omega (arith, k))
pieces_same zero (x ∷ xs) t h k same = absurd (omega (arith, h))
pieces_same (suc n) s t h k same =
    let first : take 4096 s ≡ take 4096 t = same 0 in
    let rest = pieces_same n (drop 4096 s) (drop 4096 t) (let l = length-drop 4096 s in omega (arith, l)) (let l = length-drop 4096 t in omega (arith, l))
    (λ place. moved s place ∙ same (suc place) ∙ sym (moved t place)) in
    sym (take-append-drop 4096 s) ∙ ap (λ l. l ++ drop 4096 s) first ∙ ap (λ l. take 4096 t ++ l) rest ∙ take-append-drop 4096 t
  where
    moved : (l : List ℕ) (place : ℕ) → octets_at (drop 4096 l) place ≡ octets_at l (suc place)
    moved l place = let e : 4096 + place * 4096 ≡ suc place * 4096 = omega arith in ap (take 4096) (drop-drop (place * 4096) 4096 l ∙ ap (λ m. drop m l) e)

texts_same : (rows : Rows) (a b : Contents) (key : ℕ) → key < 2 ^ 64 → Keeps rows a → Keeps rows b → text_under key a.messages ≡ text_under key b.messages
texts_same rows a b key fits j k =
    let s = text_under key a.messages in
    let t = text_under key b.messages in
    pieces_same (length s + length t) s t (omega arith) (omega arith) (λ place. at place (find (is_sheet (row_key key) (pos place)) rows.sheets) refl)
  where
    at : (place : ℕ) (o : Option Sheet) → o ≡ find (is_sheet (row_key key) (pos place)) rows.sheets → octets_at (text_under key a.messages) place ≡ octets_at (text_under key b.messages) place
    at place (Some sheet) e = sym (sheet_read key place rows a fits j sheet e) ∙ sheet_read key place rows b fits k sheet e
    at place None e = beyond (text_under key a.messages) place (no_sheet key place rows a fits j e) ∙ sym (beyond (text_under key b.messages) place (no_sheet key place rows b fits k e))

-- ---- messages

keyed_same : (x y : Keyed) → x.key < 2 ^ 64 → y.key < 2 ^ 64 → message_row x ≡ message_row y → x.message.text ≡ y.message.text → x ≡ y
unfolding num_back
keyed_same x y p q e text =
    let key : x.key ≡ y.key = to_z_inj {w = w64} (record { fits = p }) (record { fits = q }) (ap (λ (m : Message). m.key) e) in
    let d : x.message.maildrop ≡ y.message.maildrop = ap (λ (m : Message). m.maildrop) e in
    let class : x.message.class ≡ y.message.class = ap (λ (m : Message). m.class) e in
    let k : x.message.k ≡ y.message.k = ap (λ (m : Message). num_back m.k) e in
    λ i. let made : Keyed = record { key = key i; message = record { maildrop = d i; class = class i; k = k i; text = text i } } in made

mail_same : (T : ℕ → List ℕ) (xs ys : List Keyed) → map message_row xs ≡ map message_row ys → ((x : Keyed) → In x xs → x.key < 2 ^ 64) → ((y : Keyed) → In y ys → y.key < 2 ^ 64)
    → ((x : Keyed) → In x xs → T x.key ≡ x.message.text) → ((y : Keyed) → In y ys → T y.key ≡ y.message.text) → xs ≡ ys
mail_same T [] [] e p q f g = refl
mail_same T [] (y ∷ ys) e p q f g = cc
mail_same T (x ∷ xs) [] e p q f g = cc
mail_same T (x ∷ xs) (y ∷ ys) e p q f g =
    let h : message_row x ≡ message_row y = cc in
    let t : map message_row xs ≡ map message_row ys = cc in
    let key : x.key ≡ y.key = to_z_inj {w = w64} (record { fits = p x (inl refl) }) (record { fits = q y (inl refl) }) (ap (λ (m : Message). m.key) h) in
    let same = keyed_same x y (p x (inl refl)) (q y (inl refl)) h (sym (f x (inl refl)) ∙ ap T key ∙ g y (inl refl)) in
    let rest = mail_same T xs ys t (λ z i. p z (inr i)) (λ z i. q z (inr i)) (λ z i. f z (inr i)) (λ z i. g z (inr i)) in
    cc

low_key : (rows : Rows) (c : Contents) → Keeps rows c → (x : Keyed) → In x c.messages → x.key < 2 ^ 64
low_key rows c k x i = nat_lt-true x.key (2 ^ 64) (all_in (λ (y : Keyed). nat_lt y.key (2 ^ 64)) c.messages x k.keys i)

messages_same : (rows : Rows) (a b : Contents) → Keeps rows a → Keeps rows b → a.messages ≡ b.messages
messages_same rows a b j k =
    mail_same (λ key. text_under key a.messages) a.messages b.messages (sym j.messages ∙ k.messages) (low_key rows a j) (low_key rows b k) (λ x i. text_is a.messages x x.key j.sound.keys i refl)
    (λ y i. texts_same rows a b y.key (low_key rows b k y i) j k ∙ text_is b.messages y y.key k.sound.keys i refl)

-- ---- all of them

pub rows_say : (rows : Rows) (a b : Contents) → Keeps rows a → Keeps rows b → SaySame a b
rows_say rows a b j k =
    let deposits = deposits_same rows a b j k in
    record {
      clerks = names_told rows a j ∙ sym (names_told rows b k);
      credentials = λ name. credential_told rows a name j ∙ sym (credential_told rows b name k);
      maildrops = ap by_name (sym j.maildrops ∙ k.maildrops);
      messages = λ d. ap (λ (ms : List Keyed). in_maildrop d (map (λ (x : Keyed). x.message) ms)) (messages_same rows a b j k);
      receipts = λ d id. ap (λ (rs : List Receipt). receipt_of id (receipts_of d rs)) deposits;
      counts = λ d class. ap (λ (rs : List Receipt). class_count class (receipts_of d rs)) deposits;
      policy = policy_same rows a b j k;
    }

-- so the contents that the rows describe which a stop left are among those that it may leave
pub may_hold : (s : State) (db : Trees) (left : Contents) → s.may_leave db → Keeps (rows_in db) left → MayHold s left
may_hold s db left may keeps = (db, may, λ c k. rows_say (rows_in db) left c keeps k)
