-- Numbers of deposits: different numbers out of 1 to n are all of these, if there are n.
use Rattle.std.proofs.Common.{◌≡◌, inl, inr, ℕ, zero, suc, ◌+◌, ◌<◌, ◌≤◌, true, not, ◌&&◌, ◌⊎◌, List, [], ◌∷◌, ◌++◌, length, map, refl, sym, subst, ◌∙◌, arith, ⊎_elim, true≢false}
use Rattle.std.specs.Prelude.{◌==◌, nat_lt, nat_le, filter}
use Rattle.std.specs.Str.{bytes_eq}
use Rattle.std.specs.List.{list_any, list_all, range_with_len}
use Rattle.std.specs.List.Sorted.{IsPermutation}
use Rattle.std.proofs.lemmas.Bool.{and_parts}
use Rattle.std.proofs.lemmas.Bool.Decides.{nat_tests}
use Rattle.std.proofs.lemmas.List.{length-append, append-nil}
use Rattle.std.proofs.lemmas.List.FromFn.{length-range_with_len}
use Rattle.std.proofs.lemmas.List.Sums.{length-filter}
use Rattle.std.proofs.lemmas.List.Sorted.{IsPermutation-refl, IsPermutation-cons, IsPermutation-trans, IsPermutation-sym, IsPermutation-middle, length_permutation}
use Rattle.sqlite_trees.proofs.ListLemmas.{along_permutation}
use Rattle.creds.specs.Names.{is_name, is_deposit_id}
use Rattle.policy.specs.Policy.{are_distinct}
use Rattle.vault.specs.declared.record.Message.{Message}
use Rattle.vault.specs.declared.record.Receipt.{Receipt}
use Rattle.vault.specs.Records.{receipts_of, class_count, same_uid, is_receipt_for, is_counted, is_sound_receipt, most_deposits}
use Rattle.vault.proofs.ListLemmas.{In, bytes_same, bytes_are, not_true, any_in, any_of, all_in, in_filter, in_map, distinct_filter, length-map}
use Rattle.sqlvault.specs.Parts.{records_with}
use Rattle.sqlvault.proofs.RemoveLemmas.{num_same, num_itself}
use Rattle.sqlvault.proofs.SmallLemmas.{nat_le-true, nat_lt-true}

-- ---- lists in which no element stands twice

-- no element is among those after it
abbrev pub Differ : {A : Type 0} → List A → Type 0
Differ [] = Unit {0}
Differ (x ∷ xs) = (In x xs → ⊥) × Differ xs

pub in_permuted : {A : Type 0} (z : A) (xs ys : List A) → IsPermutation xs ys → In z xs → In z ys
in_permuted {A} z = along_permutation (λ xs ys. In z xs → In z ys) (λ xs i. i) (λ x xs ys h i. ⊎_elim (λ e. inl e) (λ k. inr (h k)) i)
    (λ x y xs i. ⊎_elim (λ e. inr (inl e)) (λ k. ⊎_elim (λ e. inl e) (λ l. inr (inr l)) k) i) (λ xs ys zs h k i. k (h i))

-- an element of a list can stand first
taken_out : {A : Type 0} (ys : List A) (x : A) → In x ys → (rest : List A) × IsPermutation ys (x ∷ rest)
taken_out [] x i = absurd i
taken_out {A} (y ∷ ys) x i = ⊎_elim
    (λ (e : x ≡ y). (ys, subst (λ z. IsPermutation (y ∷ ys) (z ∷ ys)) (sym e) (IsPermutation-refl (y ∷ ys))))
    (λ k. let r = taken_out ys x k in
    (y ∷ r.0, IsPermutation-trans (y ∷ ys) (y ∷ x ∷ r.0) (x ∷ y ∷ r.0) (IsPermutation-cons y ys (x ∷ r.0) r.1) (IsPermutation-middle (y ∷ []) x r.0)))
    i

-- elements that differ, all of another list, are a part of it
placed : {A : Type 0} (xs ys : List A) → Differ xs → ((x : A) → In x xs → In x ys) → (rest : List A) × IsPermutation (xs ++ rest) ys
placed [] ys differ inside = (ys, IsPermutation-refl ys)
placed {A} (x ∷ xs) ys differ inside =
    let t = taken_out ys x (inside x (inl refl)) in
    let left = λ (z : A) (i : In z xs). ⊎_elim (λ (e : z ≡ x). absurd (differ.0 (subst (λ w. In w xs) e i))) (λ (k : In z t.0). k) (in_permuted z ys (x ∷ t.0) t.1 (inside z (inr i))) in
    let r = placed xs t.0 differ.1 left in
    (r.0, IsPermutation-trans (x ∷ (xs ++ r.0)) (x ∷ t.0) ys (IsPermutation-cons x (xs ++ r.0) t.0 r.1) (IsPermutation-sym ys (x ∷ t.0) t.1))

-- so they are no more
pub no_more : {A : Type 0} (xs ys : List A) → Differ xs → ((x : A) → In x xs → In x ys) → length xs ≤ length ys
no_more xs ys differ inside =
    let r = placed xs ys differ inside in
    omega (arith, length_permutation (xs ++ r.0) ys r.1, length-append xs r.0)

-- and all of it, if they are as many
pub as_many : {A : Type 0} (xs ys : List A) → Differ xs → ((x : A) → In x xs → In x ys) → length ys ≤ length xs → IsPermutation xs ys
as_many {A} xs ys differ inside few =
    let r = placed xs ys differ inside in
    let none : length r.0 ≡ 0 = omega (arith, length_permutation (xs ++ r.0) ys r.1, length-append xs r.0) in
    at r.0 none r.1
  where
    at : (rest : List A) → length rest ≡ 0 → IsPermutation (xs ++ rest) ys → IsPermutation xs ys
    at [] e h = subst (λ l. IsPermutation l ys) (append-nil xs) h
    at (x ∷ rest) e h = absurd (omega (arith, e))

-- ---- the numbers from a on

pub in_range : (a n k : ℕ) → a ≤ k → k < a + n → In k (range_with_len a n)
in_range a zero k low high = absurd (omega arith)
in_range a (suc n) k low high = ⊎_elim (λ (e : k ≡ a). inl e) (λ (l : a + 1 ≤ k). inr (in_range (a + 1) n k l (omega arith))) (first a k low)
  where
    first : (a k : ℕ) → a ≤ k → (k ≡ a) ⊎ (a + 1 ≤ k)
    first a k h = grind (arith, nat_tests)

pub range_in : (a n k : ℕ) → In k (range_with_len a n) → (a ≤ k) × (k < a + n)
range_in a zero k i = absurd i
range_in a (suc n) k i = ⊎_elim (λ (e : k ≡ a). (omega arith, omega arith)) (λ l. let r = range_in (a + 1) n k l in (omega (arith, r.0), omega (arith, r.1))) i

pub range_differs : (a n : ℕ) → Differ (range_with_len a n)
range_differs a zero = tt
range_differs a (suc n) = (λ i. let r = range_in (a + 1) n a i in omega (arith, r.0), range_differs (a + 1) n)

-- ---- receipts

-- what a sound receipt is
pub record Parts (deposits : List Receipt) (r : Receipt) : Type 0 where
  pub maildrop : is_name r.maildrop ≡ true
  pub id : is_deposit_id r.id ≡ true
  pub class : is_name r.class ≡ true
  pub above : 0 < r.k
  pub within : r.k ≤ class_count r.class (receipts_of r.maildrop deposits)
  pub few : class_count r.class (receipts_of r.maildrop deposits) ≤ most_deposits
  pub sized : length r.digest ≡ 32

pub parts : (deposits : List Receipt) (r : Receipt) → is_sound_receipt (records_with [] deposits) r ≡ true → Parts deposits r
parts deposits r h =
    let n = class_count r.class (receipts_of r.maildrop deposits) in
    let a = is_name r.maildrop in
    let b = is_deposit_id r.id in
    let c = is_name r.class in
    let d = is_counted deposits r in
    let e = nat_le n most_deposits in
    let p5 = and_parts (a && b && c && d && e) (length r.digest == 32) h in
    let p4 = and_parts (a && b && c && d) e p5.0 in
    let p3 = and_parts (a && b && c) d p4.0 in
    let p2 = and_parts (a && b) c p3.0 in
    let p1 = and_parts a b p2.0 in
    let q = and_parts (nat_lt 0 r.k) (nat_le r.k n) p3.1 in
    record {
      maildrop = p1.0;
      id = p1.1;
      class = p2.1;
      above = nat_lt-true 0 r.k q.0;
      within = nat_le-true r.k n q.1;
      few = nat_le-true n most_deposits p4.1;
      sized = num_same (length r.digest) 32 p5.1;
    }

-- those of a class in a maildrop's name
abbrev pub of_class : List ℕ → List ℕ → List Receipt → List Receipt
of_class d class rs = filter (λ (r : Receipt). bytes_eq r.class class) (receipts_of d rs)

of_class_in : (d class : List ℕ) (rs : List Receipt) (r : Receipt) → In r (of_class d class rs) → In r rs × (r.maildrop ≡ d) × (r.class ≡ class)
of_class_in d class rs r i =
    let p = in_filter (λ (x : Receipt). bytes_eq x.class class) (receipts_of d rs) r i in
    let q = in_filter (λ (x : Receipt). bytes_eq x.maildrop d) rs r p.0 in
    (q.0, bytes_are r.maildrop d q.1, bytes_are r.class class p.1)

pub count_is_length : (class : List ℕ) (rs : List Receipt) → class_count class rs ≡ length (filter (λ (r : Receipt). bytes_eq r.class class) rs)
count_is_length class rs = sym (length-filter (λ (r : Receipt). bytes_eq r.class class) rs)

pub same_uid_of : (r s : Receipt) → r.maildrop ≡ s.maildrop → r.class ≡ s.class → r.k ≡ s.k → same_uid r s ≡ true
same_uid_of r s e f g =
    let a : bytes_eq r.maildrop s.maildrop ≡ true = subst (λ n. bytes_eq r.maildrop n ≡ true) e (bytes_same r.maildrop) in
    let b : bytes_eq r.class s.class ≡ true = subst (λ n. bytes_eq r.class n ≡ true) f (bytes_same r.class) in
    let c : (r.k == s.k) ≡ true = subst (λ n. (r.k == n) ≡ true) g (num_itself r.k) in
    rw (a, b, c) refl

-- their numbers differ
numbers_differ : (d class : List ℕ) (rs : List Receipt) → ((r : Receipt) → In r rs → (r.maildrop ≡ d) × (r.class ≡ class)) → are_distinct same_uid rs ≡ true → Differ (map (λ (r : Receipt). r.k) rs)
numbers_differ d class [] alike apart = tt
numbers_differ d class (r ∷ rs) alike apart =
    let p = and_parts (not (list_any (same_uid r) rs)) (are_distinct same_uid rs) apart in
    let here = alike r (inl refl) in (
      λ i. let s = in_map (λ (x : Receipt). x.k) rs r.k i in
          let there = alike s.0 (inr s.1) in
          true≢false (sym (same_uid_of r s.0 (here.0 ∙ sym there.0) (here.1 ∙ sym there.1) s.2) ∙ any_in (same_uid r) rs s.0 (not_true (list_any (same_uid r) rs) p.0) s.1),
      numbers_differ d class rs (λ x i. alike x (inr i)) p.1,
    )

-- a number within the count of its class is that of a receipt
pub number_of_class : (deposits : List Receipt) (d class : List ℕ) (k : ℕ) → list_all (is_sound_receipt (records_with [] deposits)) deposits ≡ true → are_distinct same_uid deposits ≡ true
    → 0 < k → k ≤ class_count class (receipts_of d deposits) → (r : Receipt) × In r deposits × (r.maildrop ≡ d) × (r.class ≡ class) × (k ≡ r.k)
number_of_class deposits d class k sound apart above within =
    let n = class_count class (receipts_of d deposits) in
    let mine = of_class d class deposits in
    let ks = map (λ (r : Receipt). r.k) mine in
    let differ = numbers_differ d class mine (λ r i. let p = of_class_in d class deposits r i in (p.1, p.2))
    (distinct_filter same_uid (λ (r : Receipt). bytes_eq r.class class) (receipts_of d deposits) (distinct_filter same_uid (λ (r : Receipt). bytes_eq r.maildrop d) deposits apart)) in
    let inside = λ (m : ℕ) (i : In m ks).
    let r = in_map (λ (x : Receipt). x.k) mine m i in
    let p = of_class_in d class deposits r.0 r.1 in
    let q = parts deposits r.0 (all_in (is_sound_receipt (records_with [] deposits)) deposits r.0 sound p.0) in
    let fits : r.0.k ≤ n = subst (λ c. r.0.k ≤ class_count c (receipts_of d deposits)) p.2 (subst (λ c. r.0.k ≤ class_count r.0.class (receipts_of c deposits)) p.1 q.within) in
    in_range 1 n m (omega (arith, q.above, r.2)) (omega (arith, fits, r.2)) in
    let many : length (range_with_len 1 n) ≤ length ks = omega (arith, length-range_with_len 1 n, length-map (λ (r : Receipt). r.k) mine, count_is_length class (receipts_of d deposits)) in
    let whole = as_many ks (range_with_len 1 n) differ inside many in
    let there = in_permuted k (range_with_len 1 n) ks (IsPermutation-sym ks (range_with_len 1 n) whole) (in_range 1 n k (omega arith) (omega arith)) in
    let r = in_map (λ (x : Receipt). x.k) mine k there in
    let p = of_class_in d class deposits r.0 r.1 in
    (r.0, p.0, p.1, p.2, r.2)

pub number_has_receipt : (deposits : List Receipt) (m : Message) → list_all (is_sound_receipt (records_with [] deposits)) deposits ≡ true → are_distinct same_uid deposits ≡ true
    → nat_lt 0 m.k ≡ true → nat_le m.k (class_count m.class (receipts_of m.maildrop deposits)) ≡ true → list_any (is_receipt_for m) deposits ≡ true
number_has_receipt deposits m sound apart above within =
    let n = class_count m.class (receipts_of m.maildrop deposits) in
    let r = number_of_class deposits m.maildrop m.class m.k sound apart (nat_lt-true 0 m.k above) (nat_le-true m.k n within) in
    any_of (is_receipt_for m) deposits r.0 r.1 (is_for m r.0 r.2 r.3 r.4)
  where
    is_for : (m : Message) (r : Receipt) → r.maildrop ≡ m.maildrop → r.class ≡ m.class → m.k ≡ r.k → is_receipt_for m r ≡ true
    is_for m r e f g =
        let a : bytes_eq m.maildrop r.maildrop ≡ true = subst (λ n. bytes_eq m.maildrop n ≡ true) (sym e) (bytes_same m.maildrop) in
        let b : bytes_eq m.class r.class ≡ true = subst (λ n. bytes_eq m.class n ≡ true) (sym f) (bytes_same m.class) in
        let c : (m.k == r.k) ≡ true = subst (λ n. (m.k == n) ≡ true) g (num_itself m.k) in
        rw (a, b, c) refl
