-- What several files need of tests, numbers and lists.
use Rattle.std.proofs.Common.{◌≡◌, ◌⊎◌, inl, inr, ◌∙◌, ℕ, ◌+◌, ◌<◌, ◌≤◌, ℤ, ◌<ℤ◌, pos, SFits, w64, of_z, Bool, true, false, not, ◌&&◌, cond, List, [], ◌∷◌, ◌++◌, length, take, get_or, refl, sym, ap}
use Rattle.std.proofs.Common.{⊎_elim, true≢false, arith, is_eq, int_cmp, Ordering}
use Rattle.std.specs.Prelude.{nat_lt, nat_le, filter, Option, Some, None, is_some}
use Rattle.std.specs.declared.cmp.Ordering.TheVariants.{Less, Equal, Greater}
use Rattle.std.specs.Ordering.{MatchOrdering}
use Rattle.std.specs.List.{list_all, list_any}
use Rattle.std.proofs.lemmas.Bool.{cases_Bool}
use Rattle.std.proofs.lemmas.Bool.Decides.{nat_tests}
use Rattle.std.proofs.lemmas.Cmp.{int_ranked}
use Rattle.std.proofs.lemmas.Int.{ints}
use Rattle.std.proofs.lemmas.List.{take_more}
use Rattle.std.proofs.lemmas.List.Folds.{list_all_at}
use Rattle.policy.specs.Policy.{are_distinct}
use Rattle.vault.proofs.ListLemmas.{In}
use Rattle.mailsql.specs.Apart.{are_apart}
use Rattle.mailsql.specs.Rows.{same_int}

-- ---- tests

pub none_of : {A : Type 0} (o : Option A) → is_some o ≡ false → o ≡ None
none_of None none = refl
none_of (Some x) none = absurd (true≢false none)

pub nat_le-true : (m n : ℕ) → nat_le m n ≡ true → m ≤ n
nat_le-true m n h = grind (arith, nat_tests)

pub le-nat_le : (m n : ℕ) → m ≤ n → nat_le m n ≡ true
le-nat_le m n h = grind (arith, nat_tests)

pub lt-nat_le : (m n : ℕ) → n < m → nat_le m n ≡ false
lt-nat_le m n h = grind (arith, nat_tests)

pub nat_lt-true : (m n : ℕ) → nat_lt m n ≡ true → m < n
nat_lt-true m n h = grind (arith, nat_tests)

pub lt-nat_lt : (m n : ℕ) → m < n → nat_lt m n ≡ true
lt-nat_lt m n h = grind (arith, nat_tests)

pub both_hold : (a b : Bool) → a ≡ true → b ≡ true → (a && b) ≡ true
both_hold a b e f = rw (e, f) refl

pub never_true : (b : Bool) → (b ≡ true → ⊥) → b ≡ false
never_true true h = absurd (h refl)
never_true false h = refl

pub int_same : (a b : ℤ) → same_int a b ≡ true → a ≡ b
int_same a b same = go (int_cmp a b) (int_ranked a b (int_cmp a b) refl) same
  where
    go : (o : Ordering) → MatchOrdering o (a <ℤ b) (a ≡ b) (b <ℤ a) → is_eq o ≡ true → a ≡ b
    go Less m e = absurd (true≢false (sym e))
    go Equal m e = m
    go Greater m e = absurd (true≢false (sym e))

pub pos_same : {m n : ℕ} → pos m ≡ pos n → m ≡ n
pos_same {m} {n} e = cc

pub below_64 : (key : ℤ) (most : ℕ) → SFits w64 key → most ≡ 18446744073709551616 → of_z w64 key < most
below_64 key most fits is = omega (arith, ints)

-- ---- lists

pub in_either : {X : Type 0} (xs ys : List X) (x : X) → In x (xs ++ ys) → In x xs ⊎ In x ys
in_either [] ys x i = inr i
in_either (z ∷ zs) ys x i = ⊎_elim (λ (e : x ≡ z). inl (inl e)) (λ k. ⊎_elim (λ l. inl (inr l)) (λ r. inr r) (in_either zs ys x k)) i

pub in_left : {X : Type 0} (xs ys : List X) (x : X) → In x xs → In x (xs ++ ys)
in_left [] ys x i = absurd i
in_left (z ∷ zs) ys x i = ⊎_elim (λ (e : x ≡ z). inl e) (λ k. inr (in_left zs ys x k)) i

pub in_right : {X : Type 0} (xs ys : List X) (x : X) → In x ys → In x (xs ++ ys)
in_right [] ys x i = i
in_right (z ∷ zs) ys x i = inr (in_right zs ys x i)

pub filter_twice : {X : Type 0} (p q : X → Bool) (xs : List X) → filter q (filter p xs) ≡ filter (λ x. p x && q x) xs
filter_twice p q [] = refl
filter_twice p q (x ∷ xs) = go (p x) (filter_twice p q xs)
  where
    go : (b : Bool) → filter q (filter p xs) ≡ filter (λ y. p y && q y) xs
        → filter q (cond b (x ∷ filter p xs) (filter p xs)) ≡ cond (b && q x) (x ∷ filter (λ y. p y && q y) xs) (filter (λ y. p y && q y) xs)
    go true e = ap (λ l. cond (q x) (x ∷ l) l) e
    go false e = e

-- what has different keys is distinct
pub apart_distinct : {X : Type 0} (same : X → X → Bool) (xs : List X) → are_apart same xs ≡ are_distinct same xs
apart_distinct same [] = refl
apart_distinct same (x ∷ xs) = ap (λ b. not (list_any (same x) xs) && b) (apart_distinct same xs)

pub take_next : {A : Type 0} (xs : List A) (i : ℕ) (x : A) → i < length xs → x ≡ get_or xs i x → take (i + 1) xs ≡ take i xs ++ x ∷ []
take_next xs i x lt is = take_more xs i x lt ∙ ap (λ y. take i xs ++ y ∷ []) (sym is)

pub all_at : {A : Type 0} (p : A → Bool) (xs : List A) (i : ℕ) (d : A) → i < length xs → list_all p xs ≡ true → p (get_or xs i d) ≡ true
all_at p xs i d lt all = elim (cases_Bool (p (get_or xs i d))) [
  | inl holds ↦ holds
  | inr fails ↦ absurd (true≢false (sym all ∙ list_all_at p xs i d lt fails))
]
