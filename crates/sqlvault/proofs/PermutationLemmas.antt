-- Lists in another order: what is chosen of them, what is found in them, and what some element or each of them passes.
use Rattle.std.proofs.Common.{◌≡◌, ◌≤◌, Bool, true, false, not, ◌&&◌, List, [], ◌∷◌, length, cond, refl, sym, ap, ◌∙◌, arith, true≢false, ⊎_elim}
use Rattle.std.specs.Prelude.{filter, map, find, slice_get, Option, Some}
use Rattle.std.specs.Option.{option_map}
use Rattle.std.specs.List.{list_any, list_all}
use Rattle.std.specs.List.Sorted.{IsPermutation}
use Rattle.std.proofs.lemmas.Bool.{cases_Bool, and_parts, or_parts}
use Rattle.std.proofs.lemmas.List.Sorted.{length_permutation}
use Rattle.sqlite_trees.proofs.ListLemmas.{along_permutation, IsPermutation-filter}
use Rattle.sqlite_keyed.proofs.ListLemmas.{slice_get-filter}
use Rattle.sqlite.proofs.Callers.{one_permutation}
use Rattle.policy.specs.Policy.{are_distinct}
use Rattle.vault.proofs.ListLemmas.{not_true}

-- what passes a test stays the same, in another order
pub filter_permuted : {X : Type 0} (p : X → Bool) (xs ys : List X) → IsPermutation xs ys → IsPermutation (filter p xs) (filter p ys)
filter_permuted p xs ys h = IsPermutation-filter p xs ys h

-- one element has no other order
pub short_permuted : {X : Type 0} (xs ys : List X) → IsPermutation xs ys → length xs ≤ 1 → xs ≡ ys
short_permuted [] [] h short = refl
short_permuted [] (y ∷ ys) h short = let n = length_permutation [] (y ∷ ys) h in absurd (omega (arith, n))
short_permuted (x ∷ []) ys h short = sym (one_permutation x ys h)
short_permuted (x ∷ y ∷ xs) ys h short = absurd (omega (arith, short))

-- if one element at most passes, the same is found
pub find_permuted : {X : Type 0} (p : X → Bool) (xs ys : List X) → IsPermutation xs ys → length (filter p xs) ≤ 1 → find p xs ≡ find p ys
find_permuted p xs ys h short =
    sym (slice_get-filter p xs) ∙ ap (λ zs. slice_get zs 0) (short_permuted (filter p xs) (filter p ys) (filter_permuted p xs ys h) short) ∙ slice_get-filter p ys

-- so it is with each element
pub all_permuted : {X : Type 0} (p : X → Bool) (xs ys : List X) → IsPermutation xs ys → list_all p xs ≡ list_all p ys
all_permuted p = along_permutation (λ xs ys. list_all p xs ≡ list_all p ys) (λ xs. refl) (λ x xs ys h. ap (λ b. p x && b) h)
    (λ x y xs. turned (p x) (p y) (list_all p xs)) (λ xs ys zs h k. h ∙ k)
  where
    turned : (a b c : Bool) → (a && (b && c)) ≡ (b && (a && c))
    turned true b c = refl
    turned false true c = refl
    turned false false c = refl

-- ---- of elements that are apart, one at most has a given key

none_pass : {X : Type 0} (p q : X → Bool) (xs : List X) → ((x : X) → p x ≡ true → q x ≡ true) → list_any q xs ≡ false → length (filter p xs) ≤ 0
none_pass p q [] same h = omega arith
none_pass p q (x ∷ xs) same h =
    let r = or_parts (q x) (list_any q xs) h in
    left x (filter p xs) (p x) (none_pass p q xs same r.1) (λ e. true≢false (sym (same x e) ∙ r.0))
  where
    left : {X : Type 0} (x : X) (xs : List X) (b : Bool) → length xs ≤ 0 → (b ≡ true → ⊥) → length (cond b (x ∷ xs) xs) ≤ 0
    left x xs true h not_so = absurd (not_so refl)
    left x xs false h not_so = h

-- `same` says that two elements have one key, and `p` that an element has the given one
pub one_passes : {X : Type 0} (same : X → X → Bool) (p : X → Bool) (xs : List X) → ((x y : X) → p x ≡ true → p y ≡ true → same x y ≡ true)
    → are_distinct same xs ≡ true → length (filter p xs) ≤ 1
one_passes same p [] key h = omega arith
one_passes same p (x ∷ xs) key h =
    let r = and_parts (not (list_any (same x) xs)) (are_distinct same xs) h in
    ⊎_elim
    (λ (e : p x ≡ true). first x (filter p xs) (p x) (none_pass p (same x) xs (λ y k. key x y e k) (not_true (list_any (same x) xs) r.0)))
    (λ (e : p x ≡ false). rw e (one_passes same p xs key r.1))
    (cases_Bool (p x))
  where
    first : {X : Type 0} (x : X) (xs : List X) (b : Bool) → length xs ≤ 0 → length (cond b (x ∷ xs) xs) ≤ 1
    first x xs true h = omega (arith, h)
    first x xs false h = omega (arith, h)

-- so the same is found
pub find_apart : {X : Type 0} (same : X → X → Bool) (p : X → Bool) (xs ys : List X) → ((x y : X) → p x ≡ true → p y ≡ true → same x y ≡ true)
    → are_distinct same xs ≡ true → IsPermutation xs ys → find p xs ≡ find p ys
find_apart same p xs ys key apart h = find_permuted p xs ys h (one_passes same p xs key apart)

-- ---- what is found in images

pub find-map : {X Y : Type 0} (f : X → Y) (p : Y → Bool) (xs : List X) → find p (map f xs) ≡ option_map f (find (λ x. p (f x)) xs)
find-map f p [] = refl
find-map f p (x ∷ xs) = at f x (p (f x)) (find p (map f xs)) (find (λ y. p (f y)) xs) (find-map f p xs)
  where
    at : {X Y : Type 0} (f : X → Y) (x : X) (b : Bool) (o : Option Y) (q : Option X) → o ≡ option_map f q → cond b (Some (f x)) o ≡ option_map f (cond b (Some x) q)
    at f x true o q e = refl
    at f x false o q e = e
