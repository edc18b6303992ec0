-- What the set of numbers has, and what the loops over rows and counts keep.
use Rattle.std.proofs.Common.{◌≡◌, ℕ, ◌+◌, ◌-◌, ◌<◌, ◌≤◌, Bool, true, false, cond, ◌||◌, List, [], ◌∷◌, ◌++◌, length, map, take, get_or, Some, None, refl, sym, ap, subst, ◌∙◌}
use Rattle.std.proofs.Common.{arith, ⊎_elim, true≢false, Ordering}
use Rattle.std.specs.Prelude.{sum_by}
use Rattle.std.specs.declared.cmp.Ordering.TheVariants.{Less, Equal, Greater}
use Rattle.std.specs.Ordering.{nat_cmp, is_eq, ordering_then}
use Rattle.std.specs.Cmp.{nat_cmp_total}
use Rattle.std.specs.Cmp.Lexicographic.{slice_cmp, nat_list_cmp_total}
use Rattle.std.specs.BTreeMap.{is_at}
use Rattle.std.specs.BTreeSet.{BTreeSet, contains}
use Rattle.std.specs.List.{list_all, range_with_len}
use Rattle.std.proofs.lemmas.Bool.{cases_Bool}
use Rattle.std.proofs.lemmas.Cmp.{tied_itself}
use Rattle.std.proofs.lemmas.Map.Lookups.{exact_bytes, exact_unsigned}
use Rattle.std.proofs.lemmas.List.Folds.{list_any-append}
use Rattle.std.proofs.lemmas.List.FromFn.{map-range_with_len_more}
use Rattle.std.proofs.lemmas.List.Sums.{sum_by_push}
use Rattle.mailsql.specs.declared.rows.Count.{Count}
use Rattle.mailsql.specs.declared.rows.Deposit.{Deposit}
use Rattle.mailsql.specs.Columns.{Name}
use Rattle.vault.proofs.ListLemmas.{In, any_of, found, all_in, all_last, map_in, in_map, map-append}
use Rattle.sqlvault.specs.Numbers.{Number, number_cmp, has_number, IsSetOf, number_of, is_deposit_row, numbers_to, has_all, is_filled, asked}
use Rattle.sqlvault.proofs.NumberLemmas.{in_range, range_in}
use Rattle.mailsql.proofs.WithoutLemmas.{tie}
use Rattle.sqlvault.proofs.SmallLemmas.{take_next}

-- ---- numbers that compare equal are the same

equal_parts : (a b : Ordering) → ordering_then a b ≡ Equal → (a ≡ Equal) × (b ≡ Equal)
equal_parts Less b e = cc
equal_parts Equal b e = (refl, e)
equal_parts Greater b e = cc

pub number_is : (x y : Number) → x.0 ≡ y.0 → x.1 ≡ y.1 → x.2 ≡ y.2 → x ≡ y
number_is x y p q r = λ i. (p i, q i, r i)

same_number : (x y : Number) → is_eq (number_cmp x y) ≡ true → x ≡ y
same_number x y h =
    let p = equal_parts (ordering_then (slice_cmp nat_cmp x.0 y.0) (slice_cmp nat_cmp x.1 y.1)) (nat_cmp x.2 y.2) (tie (number_cmp x y) h) in
    let q = equal_parts (slice_cmp nat_cmp x.0 y.0) (slice_cmp nat_cmp x.1 y.1) p.0 in
    number_is x y (exact_bytes x.0 y.0 q.0) (exact_bytes x.1 y.1 q.1) (exact_unsigned x.2 y.2 p.1)

number_itself : (x : Number) → is_eq (number_cmp x x) ≡ true
number_itself x =
    ap (λ o. is_eq (ordering_then (ordering_then o (slice_cmp nat_cmp x.1 x.1)) (nat_cmp x.2 x.2))) (tied_itself nat_list_cmp_total x.0)
    ∙ ap (λ o. is_eq (ordering_then o (nat_cmp x.2 x.2))) (tied_itself nat_list_cmp_total x.1)
    ∙ ap is_eq (tied_itself nat_cmp_total x.2)

pub has_of : (ns : List Number) (q : Number) → In q ns → has_number ns q ≡ true
has_of ns q i = any_of (λ (x : Number). is_eq (number_cmp x q)) ns q i (number_itself q)

pub of_has : (ns : List Number) (q : Number) → has_number ns q ≡ true → In q ns
of_has ns q h =
    let f = found (λ (x : Number). is_eq (number_cmp x q)) ns h in
    subst (λ (x : Number). In x ns) (same_number f.0 q f.2) f.1

-- ---- the numbers of a class

pub in_numbers : (d class : Name) (n k : ℕ) → 0 < k → k ≤ n → In {A = Number} (d, class, k) (numbers_to d class n)
in_numbers d class n k low high =
    let back : k - 1 + 1 ≡ k = omega arith in
    subst (λ (m : ℕ). In {A = Number} (d, class, m) (numbers_to d class n)) back
    (map_in {B = Number} (λ (m : ℕ). (d, class, m + 1)) (range_with_len 0 n) (k - 1) (in_range 0 n (k - 1) (omega arith) (omega arith)))

pub record IsNumberOf (d class : Name) (n : ℕ) (z : Number) : Type 0 where
  pub maildrop : z.0 ≡ d
  pub class_is : z.1 ≡ class
  pub above : 0 < z.2
  pub within : z.2 ≤ n

pub numbers_in : (d class : Name) (n : ℕ) (z : Number) → In z (numbers_to d class n) → IsNumberOf d class n z
numbers_in d class n z i =
    let m = in_map {B = Number} (λ (k : ℕ). (d, class, k + 1)) (range_with_len 0 n) z i in
    let r = range_in 0 n m.0 m.1 in
    let k : z.2 ≡ m.0 + 1 = ap (λ (x : Number). x.2) m.2 in
    record { maildrop = ap (λ (x : Number). x.0) m.2; class_is = ap (λ (x : Number). x.1) m.2; above = omega (arith, k); within = omega (arith, k, r.1) }

pub has_more : (ns : List Number) (d class : Name) (n : ℕ) → has_all ns d class n ≡ true → has_number ns (d, class, n + 1) ≡ true → has_all ns d class (n + 1) ≡ true
has_more ns d class n before here =
    subst (λ (l : List Number). list_all (has_number ns) l ≡ true) (sym (map-range_with_len_more {X = Number} (λ (k : ℕ). (d, class, k + 1)) 0 n n (omega arith)))
    (all_last (has_number ns) (numbers_to d class n) (d, class, n + 1) before here)

pub has_not : (ns : List Number) (d class : Name) (n count : ℕ) → n < count → has_number ns (d, class, n + 1) ≡ false → has_all ns d class count ≡ false
has_not ns d class n count lt none = ⊎_elim
    (λ (e : has_all ns d class count ≡ true). absurd
    (true≢false (sym (all_in (has_number ns) (numbers_to d class count) (d, class, n + 1) e (in_numbers d class count (n + 1) (omega arith) (omega arith))) ∙ none)))
    (λ (e : has_all ns d class count ≡ false). e)
    (cases_Bool (has_all ns d class count))

-- ---- rows that are read

some_if : {A : Type 0} (b : Bool) (x y : A) → Some x ≡ cond b (Some y) None → (b ≡ true) × (x ≡ y)
some_if true x y e = (refl, cc)
some_if false x y e = cc

has_one_more : (ns : List Number) (k q : Number) → has_number (ns ++ k ∷ []) q ≡ cond (is_eq (number_cmp k q)) true (has_number ns q)
has_one_more ns k q = list_any-append (λ (x : Number). is_eq (number_cmp x q)) ns (k ∷ []) ∙ turned (has_number ns q) (is_eq (number_cmp k q))
  where
    turned : (a b : Bool) → (a || (b || false)) ≡ cond b true a
    turned true true = refl
    turned true false = refl
    turned false true = refl
    turned false false = refl

pub read_more : (rows : List Deposit) (i : ℕ) (row : Deposit) (k : Number) (s n : BTreeSet Number) → i < length rows → row ≡ get_or rows i row
    → Some k ≡ cond (is_deposit_row row) (Some (number_of row)) None
    → (list_all is_deposit_row (take i rows) ≡ true) × IsSetOf (map number_of (take i rows)) s
    → ((q : Number) → contains number_cmp n q ≡ cond (is_at (number_cmp k) q) true (contains number_cmp s q))
    → (list_all is_deposit_row (take (i + 1) rows) ≡ true) × IsSetOf (map number_of (take (i + 1) rows)) n
read_more rows i row k s n lt at read before updates =
    let r = some_if (is_deposit_row row) k (number_of row) read in
    let t = take_next rows i row lt at in
    let ns = map number_of (take i rows) in
    let mapped : map number_of (take (i + 1) rows) ≡ ns ++ k ∷ [] = ap (λ (l : List Deposit). map number_of l) t
    ∙ map-append number_of (take i rows) (row ∷ []) ∙ ap (λ (x : Number). ns ++ x ∷ []) (sym r.1) in (
      subst (λ (l : List Deposit). list_all is_deposit_row l ≡ true) (sym t) (all_last is_deposit_row (take i rows) row before.0 r.0),
      λ q. updates q ∙ ap (λ b. cond (is_eq (number_cmp k q)) true b) (before.1 q) ∙ sym (has_one_more ns k q) ∙ ap (λ (l : List Number). has_number l q) (sym mapped),
    )

-- ---- counts that are filled

pub filled_more : (ns : List Number) (rows : List Count) (i : ℕ) (row : Count) (count : ℕ) → i < length rows → row ≡ get_or rows i row
    → Some count ≡ cond (is_filled ns row) (Some (asked row)) None → list_all (is_filled ns) (take i rows) ≡ true → list_all (is_filled ns) (take (i + 1) rows) ≡ true
filled_more ns rows i row count lt at read before =
    subst (λ (l : List Count). list_all (is_filled ns) l ≡ true) (sym (take_next rows i row lt at))
    (all_last (is_filled ns) (take i rows) row before (some_if (is_filled ns row) count (asked row) read).0)

pub asked_more : (rows : List Count) (i : ℕ) (row : Count) (left count deposits : ℕ) → i < length rows → row ≡ get_or rows i row → count ≡ asked row → count ≤ left
    → left + sum_by asked (take i rows) ≡ deposits → left - count + sum_by asked (take (i + 1) rows) ≡ deposits
asked_more rows i row left count deposits lt at is few before =
    let t : sum_by asked (take (i + 1) rows) ≡ sum_by asked (take i rows) + asked row = ap (λ (l : List Count). sum_by asked l) (take_next rows i row lt at) ∙ sum_by_push asked (take i rows) row in
    omega (arith, t)
