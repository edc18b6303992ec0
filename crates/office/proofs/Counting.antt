-- The connections that are kept are those that are open, counted.
use Rattle.std.proofs.Common.{◌≡◌, ℕ, zero, suc, ◌+◌, ◌<◌, ◌≤◌, Bool, true, false, List, [], ◌∷◌, length, filter, refl, sym, ◌∙◌, ap, ⊎_elim, arith, Option, Some, None, IsSome}
use Rattle.std.proofs.Common.{is_some, nat_cmp, nat_le, nat_lt, le-leb, ◌==◌}
use Rattle.std.specs.Prelude.{⊤}
use Rattle.std.proofs.lemmas.Bool.{cases_Bool, cases_eq, lt-leb}
use Rattle.std.proofs.lemmas.Bool.Decides.{nat_tests}
use Rattle.std.specs.List.{range_with_len, AllByRecursion}
use Rattle.std.specs.List.Sorted.{IsStrictlySortedBy}
use Rattle.std.specs.Map.{lookup, keys_of}
use Rattle.std.specs.BTreeMap.{get, is_at, IsOrdered, btree_map_len}
use Rattle.std.specs.declared.cmp.Ordering.TheVariants.{Less}
use Rattle.vault.specs.Changes.{Contents}
use Rattle.office.specs.Events.{Trace}
use Rattle.office.specs.Log.{opened}
use Rattle.office.specs.Trace.{is_open, open_numbers}
use Rattle.office.specs.Expected.{is_full, most_open, most_number}
use Rattle.office.specs.Kept.{Kept}
use Rattle.office.specs.Stands.{Seen, seen, IsKeptFor, is_seen_open, StandsFor}
use Rattle.office.specs.declared.office.Office.{Office}
use Rattle.office.proofs.SmallLemmas.{less_than, not_above, not_below, at_itself}

abbrev Entries : Type 0
Entries = List (ℕ × Kept)

-- the keys ascend from a number on
abbrev Ascends : ℕ → Entries → Type 0
Ascends a [] = ⊤
Ascends a ((k, v) ∷ es) = (a ≤ k) × Ascends (k + 1) es

ascends_behind : (k : ℕ) (es : Entries) → AllByRecursion (λ y. nat_cmp k y ≡ Less) (keys_of es) → IsStrictlySortedBy nat_cmp (keys_of es) → Ascends (k + 1) es
unfolding IsStrictlySortedBy
ascends_behind k [] all sorted = tt
ascends_behind k ((q, v) ∷ es) all sorted = (let h = less_than k q all.0 in omega (arith, h), ascends_behind q es sorted.0 sorted.1)

-- the entries' keys ascend from the first on
ascends : (a : ℕ) (es : Entries) → IsStrictlySortedBy nat_cmp (keys_of es) → ((k : ℕ) → IsSome (lookup (is_at (nat_cmp k)) es) → a ≤ k) → Ascends a es
unfolding IsStrictlySortedBy
ascends a [] sorted low = tt
ascends a ((k, v) ∷ es) sorted low = (low k (let e : is_at (nat_cmp k) k ≡ true = grind (arith, nat_tests) in rw e refl), ascends_behind k es sorted.0 sorted.1)

-- nothing stands below the keys
none_below : (c b : ℕ) (es : Entries) → c < b → Ascends b es → lookup (is_at (nat_cmp c)) es ≡ None
none_below c b [] h up = refl
none_below c b ((k, v) ∷ es) h up = rw (not_above c k (omega (arith, h, up.0))) (none_below c (k + 1) es (omega (arith, h, up.0)) up.1)

-- the test is whether a key is there, from a number on
abbrev IsFoundBy : (ℕ → Bool) → ℕ → Entries → Type 0
IsFoundBy p a es = (c : ℕ) → a ≤ c → is_some (lookup (is_at (nat_cmp c)) es) ≡ p c

filter_in : (p : ℕ → Bool) (a : ℕ) (xs : List ℕ) → p a ≡ true → length (filter p (a ∷ xs)) ≡ length (filter p xs) + 1
filter_in p a xs e = rw e (omega arith)

filter_out : (p : ℕ → Bool) (a : ℕ) (xs : List ℕ) → p a ≡ false → length (filter p (a ∷ xs)) ≡ length (filter p xs)
filter_out p a xs e = rw e refl

-- as many numbers pass the test as there are keys
module _ (p : ℕ → Bool) where
  count_of_keys : (n a : ℕ) (es : Entries) → Ascends a es → IsFoundBy p a es → ((c : ℕ) → a + n ≤ c → p c ≡ false) → length (filter p (range_with_len a n)) ≡ length es
  count_of_keys zero a [] up found none = refl
  count_of_keys zero a ((k, v) ∷ es) up found none =
      let seen_here : is_some (lookup (is_at (nat_cmp k)) ((k, v) ∷ es)) ≡ p k = found k up.0 in
      let e = at_itself k in
      let here : true ≡ p k = rw e at seen_here in
      let gone = none k (omega (arith, up.0)) in
      cc
  count_of_keys (suc n) a [] up found none =
      filter_out p a (range_with_len (a + 1) n) (sym (found a (omega arith)))
      ∙ count_of_keys n (a + 1) [] tt (λ c h. found c (omega (arith, h))) (λ c h. none c (omega (arith, h)))
  count_of_keys (suc n) a ((k, v) ∷ es) up found none = ⊎_elim
      (λ (e : a ≡ k).
      let here : p a ≡ true = sym (found a (omega arith)) ∙ (let t = at_itself k in rw (e, t) refl) in
      filter_in p a (range_with_len (a + 1) n) here
      ∙ (ap (λ m. m + 1) (count_of_keys n (a + 1) es (rw e up.1)
      (λ c h. let f : is_some (lookup (is_at (nat_cmp c)) ((k, v) ∷ es)) ≡ p c = found c (omega (arith, h)) in let t = not_below c k (omega (arith, e, h)) in rw t at f)
      (λ c h. none c (omega (arith, h))))
      ∙ omega arith))
      (λ (ne : a ≡ k → ⊥).
      let above : a < k = omega (arith, up.0, ne) in
      let out : p a ≡ false = sym (found a (omega arith)) ∙ ap is_some (none_below a (a + 1) ((k, v) ∷ es) (omega arith) (omega (arith, above), up.1)) in
      filter_out p a (range_with_len (a + 1) n) out
      ∙ count_of_keys n (a + 1) ((k, v) ∷ es) (omega (arith, above), up.1) (λ c h. found c (omega (arith, h))) (λ c h. none c (omega (arith, h))))
      (cases_eq a k)

kept_is_open : (c : Contents) (s : Seen) (o : Option Kept) → IsKeptFor c s o → is_some o ≡ is_seen_open s
kept_is_open c s None h = sym h.closed
kept_is_open c s (Some k) m = sym m.opened

pub open_numbers-len : {V : Type 0} (Holds : V → Contents → Type 0) (o : Office V) (T : Trace) → StandsFor Holds o T → IsOrdered nat_cmp o.connections
    → length (open_numbers T) ≡ btree_map_len o.connections
open_numbers-len Holds o T st ordered =
    let there : (c : ℕ) → is_some (get nat_cmp o.connections c) ≡ is_open T c = λ c. kept_is_open st.keeps.contents (seen T c) (get nat_cmp o.connections c) (st.connections c) in
    count_of_keys (is_open T) (opened T.log) 1 o.connections.entries
    (ascends 1 o.connections.entries ordered (λ k some. (st.numbered k some).0))
    (λ c h. there c)
    (λ c h. ⊎_elim (λ (e : is_open T c ≡ true). absurd (omega (arith, h, (st.numbered c (there c ∙ e)).1))) (λ (e : is_open T c ≡ false). e) (cases_Bool (is_open T c)))

last_number : (most n : ℕ) → n ≤ most → (n == most) ≡ nat_lt most (n + 1)
last_number most n fits = grind (arith, nat_tests, fits)

module _ {V : Type 0} (Holds : V → Contents → Type 0) (o : Office V) (T : Trace) (st : StandsFor Holds o T)
    (ordered : IsOrdered nat_cmp o.connections) (len : ℕ) (counted : len ≡ btree_map_len o.connections) where
  open_len : length (open_numbers T) ≡ len
  open_len = open_numbers-len Holds o T st ordered ∙ sym counted

  -- as many are open as may be
  pub full_by_len : most_open ≤ len → nat_le most_open len ≡ is_full T
  full_by_len h = let e : nat_le most_open len ≡ true = le-leb most_open len h in rw (open_len, e) refl

  -- fewer are open, so it depends on the numbers
  pub full_by_number : len < most_open → o.opened ≤ most_number → (o.opened == most_number) ≡ is_full T
  full_by_number h fits = let e : nat_le most_open len ≡ false = lt-leb most_open len h in
      last_number most_number o.opened fits ∙ rw (open_len, e, st.opened) refl
