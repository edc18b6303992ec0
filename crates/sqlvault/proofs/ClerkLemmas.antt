-- What each statement leaves of the clerks, and what the rows say of them.
use Rattle.std.proofs.Common.{◌≡◌, ℕ, ℤ, ◌<◌, ◌≤◌, Bool, true, false, List, [], ◌∷◌, ◌++◌, length, Result, Ok, Err, refl, sym, ◌∙◌, ap, subst, cond, true≢false, ⊎_elim}
use Rattle.std.specs.Prelude.{map, filter, min, not, bytes_eq, find, Option, Some, None, is_some, is_ok}
use Rattle.std.specs.Option.{option_map}
use Rattle.std.specs.List.{list_any, list_all}
use Rattle.std.specs.List.Sorted.{IsPermutation}
use Rattle.std.proofs.lemmas.Bool.{cases_Bool, and_parts, or_parts}
use Rattle.std.proofs.lemmas.List.Sorted.{IsPermutation-refl, IsPermutation-cons, IsPermutation-trans, IsPermutation-map, IsPermutation-append_comm, IsPermutation-append_left, length_permutation}
use Rattle.creds.specs.Names.{is_name}
use Rattle.creds.specs.declared.credential.Credential.{Credential}
use Rattle.policy.specs.Policy.{are_distinct}
use Rattle.vault.specs.declared.fault.VaultFault.{VaultFault}
use Rattle.vault.specs.declared.fault.VaultFault.TheVariants as fault
use Rattle.vault.specs.declared.record.Clerk as vault
use Rattle.vault.specs.Records.{is_sound_clerk, is_sound_credential, credential_in, most_clerks}
use Rattle.vault.specs.Changes.{Contents, AreSound, with_credential, with_clerk, without_clerk, with_clerks, put_clerk_answer}
use Rattle.vault.specs.Calls.{IsAnswer, put_result, IsCredential, drop_clerk_result}
use Rattle.vault.proofs.ListLemmas.{bytes_same, bytes_are, not_true, distinct-map, filter-map, map-append, length-map, found_none}
use Rattle.vault.proofs.ClerkLemmas.{sound_with_clerk, sound_without_clerk}
use Rattle.mailsql.specs.declared.rows.Clerk.{Clerk}
use Rattle.mailsql.specs.Rows.{Rows, is_clerk}
use Rattle.mailsql.specs.Changes.{PutsClerk, DropsClerk}
use Rattle.sqlvault.specs.Keeps.{Keeps, kind_of, secret_of, clerk_row}
use Rattle.sqlvault.proofs.PermutationLemmas.{find_apart, find-map, filter_permuted}
use Rattle.sqlvault.proofs.SmallLemmas.{lt-nat_le, le-nat_le}

-- ---- what the rows say

abbrev has_that_name : List ℕ → vault.Clerk → Bool
has_that_name name x = bytes_eq x.name name

abbrev same_name : Clerk → Clerk → Bool
same_name x y = bytes_eq x.name y.name

same_key : (name : List ℕ) (x y : Clerk) → is_clerk name x ≡ true → is_clerk name y ≡ true → same_name x y ≡ true
same_key name x y e f = rw (bytes_are x.name name e, bytes_are y.name name f) (bytes_same name)

-- what is found by a name is that clerk's row
pub found_rows : (rows : Rows) (c : Contents) (name : List ℕ) → Keeps rows c → find (is_clerk name) rows.clerks ≡ option_map clerk_row (find (has_that_name name) c.clerks)
found_rows rows c name k =
    sym (find_apart same_name (is_clerk name) (map clerk_row c.clerks) rows.clerks (same_key name) (distinct-map clerk_row same_name c.clerks ∙ k.sound.records.clerks_apart) k.clerks)
    ∙ find-map clerk_row (is_clerk name) c.clerks

found_sound : {X : Type 0} (p q : X → Bool) (xs : List X) (x : X) → list_all p xs ≡ true → find q xs ≡ Some x → p x ≡ true
found_sound p q [] x all e = cc
found_sound p q (y ∷ ys) x all e =
    let r = and_parts (p y) (list_all p ys) all in
    at (q y) e r.0 (λ f. found_sound p q ys x r.1 f)
  where
    at : (b : Bool) → cond b (Some y) (find q ys) ≡ Some x → p y ≡ true → (find q ys ≡ Some x → p x ≡ true) → p x ≡ true
    at true e h rest = let same : y ≡ x = cc in subst (λ z. p z ≡ true) same h
    at false e h rest = rest e

-- a row that is found is a clerk's, whose credential is the one in the contents
pub record IsFound (c : Contents) (name : List ℕ) (row : Clerk) : Type 0 where
  pub clerk : vault.Clerk
  pub row_is : row ≡ clerk_row clerk
  pub sound : is_sound_credential clerk.credential ≡ true
  pub kept : credential_in name c.clerks ≡ Some clerk.credential

pub is_found : (rows : Rows) (c : Contents) (name : List ℕ) (row : Clerk) → Keeps rows c → Some row ≡ find (is_clerk name) rows.clerks → IsFound c name row
is_found rows c name row k e = at (find (has_that_name name) c.clerks) refl (e ∙ found_rows rows c name k)
  where
    at : (o : Option vault.Clerk) → find (has_that_name name) c.clerks ≡ o → Some row ≡ option_map clerk_row o → IsFound c name row
    at None f e = cc
    at (Some x) f e = record {
      clerk = x;
      row_is = cc;
      sound = (and_parts (is_name x.name) (is_sound_credential x.credential) (found_sound is_sound_clerk (has_that_name name) c.clerks x k.sound.records.clerks f)).1;
      kept = ap (λ (o : Option vault.Clerk). option_map (λ (y : vault.Clerk). y.credential) o) f;
    }

pub not_found : (rows : Rows) (c : Contents) (name : List ℕ) → Keeps rows c → None ≡ find (is_clerk name) rows.clerks → credential_in name c.clerks ≡ None
not_found rows c name k e = at (find (has_that_name name) c.clerks) refl (e ∙ found_rows rows c name k)
  where
    at : (o : Option vault.Clerk) → find (has_that_name name) c.clerks ≡ o → None ≡ option_map clerk_row o → credential_in name c.clerks ≡ None
    at None f e = ap (λ (o : Option vault.Clerk). option_map (λ (y : vault.Clerk). y.credential) o) f
    at (Some x) f e = cc

pub is_there : (rows : Rows) (c : Contents) (name : List ℕ) → Keeps rows c → is_some (find (is_clerk name) rows.clerks) ≡ is_some (credential_in name c.clerks)
is_there rows c name k = ap (λ (o : Option Clerk). is_some o) (found_rows rows c name k) ∙ at (find (has_that_name name) c.clerks)
  where
    at : (o : Option vault.Clerk) → is_some (option_map clerk_row o) ≡ is_some (option_map (λ (y : vault.Clerk). y.credential) o)
    at None = refl
    at (Some x) = refl

pub count_is : (rows : Rows) (c : Contents) (n most : ℕ) → Keeps rows c → n ≡ min (length rows.clerks) most → n ≡ min (length c.clerks) most
count_is rows c n most k e = e ∙ ap (λ (m : ℕ). min m most) (length_permutation (map clerk_row c.clerks) rows.clerks k.clerks ∙ length-map clerk_row c.clerks)

-- ---- the rows

abbrev with_rows : List Clerk → Rows → Rows
with_rows clerks rows = record rows { clerks = clerks }

keeps_clerks : (rows : Rows) (c : Contents) (clerks : List vault.Clerk) (held : List Clerk) → Keeps rows c → IsPermutation (map clerk_row clerks) held → AreSound (with_clerks clerks c)
    → Keeps (with_rows held rows) (with_clerks clerks c)
keeps_clerks rows c clerks held k p s = record {
  meta_row = k.meta_row;
  clerks = p;
  maildrops = k.maildrops;
  counts = k.counts;
  deposits = k.deposits;
  messages = k.messages;
  sheets = k.sheets;
  groups = k.groups;
  rules = k.rules;
  keys = k.keys;
  sound = s;
}

-- the rows without those of a name
left_rows : (rows : Rows) (c : Contents) (name : List ℕ) → Keeps rows c → IsPermutation (map clerk_row (without_clerk name c.clerks)) (filter (λ x. not (is_clerk name x)) rows.clerks)
left_rows rows c name k =
    subst (λ (xs : List Clerk). IsPermutation xs (filter (λ x. not (is_clerk name x)) rows.clerks)) (filter-map clerk_row (λ x. not (is_clerk name x)) c.clerks)
    (filter_permuted (λ x. not (is_clerk name x)) (map clerk_row c.clerks) rows.clerks k.clerks)

pub keeps_dropped : (c : Contents) (name : List ℕ) (from to : Rows) → DropsClerk name from to → Keeps from c → Keeps to (with_clerks (without_clerk name c.clerks) c)
keeps_dropped c name from to change k =
    subst (λ (r : Rows). Keeps r (with_clerks (without_clerk name c.clerks) c)) (sym change)
    (keeps_clerks from c (without_clerk name c.clerks) (filter (λ x. not (is_clerk name x)) from.clerks) k (left_rows from c name k)
    (sound_without_clerk name c k.sound))

-- ---- a clerk in place of another, which stands in the contents where the other stood, and in the rows at the end

untouched : (name : List ℕ) (given : Credential) (xs : List vault.Clerk) → list_any (has_that_name name) xs ≡ false → map (with_credential name given) xs ≡ xs
untouched name given [] none = refl
untouched name given (x ∷ xs) none =
    let r = or_parts (bytes_eq x.name name) (list_any (has_that_name name) xs) none in
    let e = untouched name given xs r.1 in
    rw (r.0, e) refl

none_out : (name : List ℕ) (xs : List vault.Clerk) → list_any (has_that_name name) xs ≡ false → without_clerk name xs ≡ xs
none_out name [] none = refl
none_out name (x ∷ xs) none =
    let r = or_parts (bytes_eq x.name name) (list_any (has_that_name name) xs) none in
    let e = none_out name xs r.1 in
    rw (r.0, e) refl

-- no other has the name of one that has it
none_else : (name : List ℕ) (x : vault.Clerk) (xs : List vault.Clerk) → bytes_eq x.name name ≡ true → list_any (λ (y : vault.Clerk). bytes_eq x.name y.name) xs ≡ false
    → list_any (has_that_name name) xs ≡ false
none_else name x [] e h = refl
none_else name x (y ∷ ys) e h =
    let r = or_parts (bytes_eq x.name y.name) (list_any (λ (z : vault.Clerk). bytes_eq x.name z.name) ys) h in
    let rest = none_else name x ys e r.1 in
    let apart = differs (bytes_eq y.name name) refl in
    rw (apart, rest) refl
  where
    differs : (b : Bool) → bytes_eq y.name name ≡ b → bytes_eq y.name name ≡ false
    differs false f = f
    differs true f = absurd (true≢false (sym (bytes_same name) ∙ ap (λ n. bytes_eq n name) (sym (bytes_are x.name name e)) ∙ ap (λ n. bytes_eq x.name n) (sym (bytes_are y.name name f))
        ∙ (or_parts (bytes_eq x.name y.name) (list_any (λ (z : vault.Clerk). bytes_eq x.name z.name) ys) h).0))

replaced : (name : List ℕ) (given : Credential) (xs : List vault.Clerk) → are_distinct (λ (x y : vault.Clerk). bytes_eq x.name y.name) xs ≡ true → list_any (has_that_name name) xs ≡ true
    → IsPermutation (map (with_credential name given) xs) (without_clerk name xs ++ record { name = name; credential = given } ∷ [])
replaced name given [] apart some = absurd (true≢false (sym some))
replaced name given (x ∷ xs) apart some =
    let r = and_parts (not (list_any (λ (y : vault.Clerk). bytes_eq x.name y.name) xs)) (are_distinct (λ (x y : vault.Clerk). bytes_eq x.name y.name) xs) apart in
    let new : vault.Clerk = record { name = name; credential = given } in
    ⊎_elim
    (λ (e : bytes_eq x.name name ≡ true).
    let none = none_else name x xs e (not_true (list_any (λ (y : vault.Clerk). bytes_eq x.name y.name) xs) r.0) in
    let same = bytes_are x.name name e in
    let a = untouched name given xs none in
    let b = none_out name xs none in
    rw (e, a, b, same) (IsPermutation-append_comm (new ∷ []) xs))
    (λ (e : bytes_eq x.name name ≡ false).
    let rest = replaced name given xs r.1 (rw e at some) in
    rw e (IsPermutation-cons x (map (with_credential name given) xs) (without_clerk name xs ++ new ∷ []) rest))
    (cases_Bool (bytes_eq x.name name))

-- so it is of a new clerk, too
put : (name : List ℕ) (given : Credential) (xs : List vault.Clerk) → are_distinct (λ (x y : vault.Clerk). bytes_eq x.name y.name) xs ≡ true
    → IsPermutation (with_clerk name given xs) (without_clerk name xs ++ record { name = name; credential = given } ∷ [])
put name given xs apart =
    let there = found_none (λ (x : vault.Clerk). x.credential) (has_that_name name) xs in
    ⊎_elim
    (λ (e : is_some (credential_in name xs) ≡ true). rw e (replaced name given xs apart (sym there ∙ e)))
    (λ (e : is_some (credential_in name xs) ≡ false).
    let a = none_out name xs (sym there ∙ e) in
    rw (e, a) (IsPermutation-refl (xs ++ record { name = name; credential = given } ∷ [])))
    (cases_Bool (is_some (credential_in name xs)))

put_rows : (rows : Rows) (c : Contents) (x : vault.Clerk) → Keeps rows c
    → IsPermutation (map clerk_row (with_clerk x.name x.credential c.clerks)) (filter (λ y. not (is_clerk x.name y)) rows.clerks ++ clerk_row x ∷ [])
put_rows rows c x k =
    let others = without_clerk x.name c.clerks in
    IsPermutation-trans (map clerk_row (with_clerk x.name x.credential c.clerks)) (map clerk_row others ++ clerk_row x ∷ []) (filter (λ y. not (is_clerk x.name y)) rows.clerks ++ clerk_row x ∷ [])
    (subst (λ (zs : List Clerk). IsPermutation (map clerk_row (with_clerk x.name x.credential c.clerks)) zs) (map-append clerk_row others (x ∷ []))
    (IsPermutation-map clerk_row (with_clerk x.name x.credential c.clerks) (others ++ x ∷ []) (put x.name x.credential c.clerks k.sound.records.clerks_apart)))
    (IsPermutation-append_left (clerk_row x ∷ []) (map clerk_row others) (filter (λ y. not (is_clerk x.name y)) rows.clerks) (left_rows rows c x.name k))

pub keeps_put : (c : Contents) (x : vault.Clerk) (r : Result Bool VaultFault) → is_name x.name ≡ true → is_sound_credential x.credential ≡ true
    → IsAnswer (put_result (put_clerk_answer x.name c.clerks)) r → is_ok r ≡ true
    → (from to : Rows) → PutsClerk (clerk_row x) from to → Keeps from c → Keeps to (with_clerks (with_clerk x.name x.credential c.clerks) c)
keeps_put c x r form sound answer ok from to change k =
    let after = with_clerk x.name x.credential c.clerks in
    subst (λ (rows : Rows). Keeps rows (with_clerks after c)) (sym change)
    (keeps_clerks from c after (filter (λ y. not (is_clerk x.name y)) from.clerks ++ clerk_row x ∷ []) k (put_rows from c x k)
    (sound_with_clerk x.name x.credential c r k.sound form sound answer ok))

-- a row from its columns
pub row_made : (name text secret : List ℕ) (kind : ℤ) (given : Credential) → text ≡ name → kind ≡ kind_of given → secret ≡ secret_of given
    → ◌≡◌ {A = Clerk} (record { name = text; kind = kind; secret = secret }) (clerk_row (record { name = name; credential = given }))
row_made name text secret kind given e f h = rw (e, f, h) refl

-- ---- the answers

pub answered : (Held : Contents → Type 0) (c : Contents) (name : List ℕ) (o : Option Credential) → credential_in name c.clerks ≡ o → Held c → IsCredential Held c name (Ok o)
answered Held c name o e h = record { answer = ap (λ (x : Option Credential). Ok x) e; held = h }

-- what the judging queries answer
pub full : (c : Contents) (name : List ℕ) → is_some (credential_in name c.clerks) ≡ false
    → most_clerks ≤ length c.clerks
    → IsAnswer (put_result (put_clerk_answer name c.clerks)) (Err fault.Full)
full c name e most = let f = le-nat_le most_clerks (length c.clerks) most in rw (e, f) refl

pub new : (c : Contents) (name : List ℕ) → is_some (credential_in name c.clerks) ≡ false
    → length c.clerks < most_clerks
    → IsAnswer (put_result (put_clerk_answer name c.clerks)) (Ok true)
new c name e fits = let f = lt-nat_le most_clerks (length c.clerks) fits in rw (e, f) refl

-- a clerk who is there can be dropped, by the name's text
pub may_drop : (c : Contents) (text name : List ℕ) → text ≡ name
    → is_some (credential_in name c.clerks) ≡ true
    → (drop_clerk_result name c.clerks ≡ Ok tt)
    × ((from to : Rows) → DropsClerk text from to → Keeps from c
    → Keeps to (with_clerks (without_clerk name c.clerks) c))
may_drop c text name same there = (
  ap (λ b. let r : Result (Unit {0}) VaultFault = cond b (Ok tt) (Err fault.NoClerk) in r) there,
  subst (λ n. (from to : Rows) → DropsClerk text from to → Keeps from c
      → Keeps to (with_clerks (without_clerk n c.clerks) c)) same (keeps_dropped c text),
)
