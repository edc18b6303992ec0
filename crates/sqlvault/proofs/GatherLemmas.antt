-- Lists that have the same elements, and sums over parts of a list.
use Rattle.std.proofs.Common.{◌≡◌, inl, inr, ℕ, zero, suc, ◌+◌, ◌<◌, ◌≤◌, Bool, true, false, not, cond, List, [], ◌∷◌, ◌++◌, length, map, Some, refl, sym, ap, subst, ◌∙◌}
use Rattle.std.proofs.Common.{arith, ⊎_elim, true≢false, length-append}
use Rattle.std.specs.Prelude.{◌&&◌, filter, flat_map, sum_by, unwrap_or, All}
use Rattle.std.specs.List.{find, list_any, range_with_len, AllByRecursion}
use Rattle.std.specs.List.Sorted.{IsPermutation}
use Rattle.std.specs.Str.{bytes_eq}
use Rattle.std.proofs.Math.Nat.{eq-or-lt_of_le}
use Rattle.std.proofs.lemmas.Bool.{cases_Bool, and_parts}
use Rattle.std.proofs.lemmas.List.Elements.{All-from_recursion, recursion_from_All}
use Rattle.std.proofs.lemmas.List.Sums.{sum_by-cons}
use Rattle.std.proofs.lemmas.List.Sorted.{IsPermutation-refl, IsPermutation-cons, IsPermutation-middle, IsPermutation-trans, IsPermutation-sym, All-permutation}
use Rattle.policy.specs.Policy.{are_distinct}
use Rattle.mailsql.specs.Apart.{are_apart}
use Rattle.vault.specs.Records.{is_one_of}
use Rattle.vault.proofs.ListLemmas.{In, any_in, none_any, not_true, bytes_are, bytes_same}
use Rattle.sqlvault.proofs.SmallLemmas.{in_either, in_left, in_right, never_true}

-- ---- each element

pub all_here : {X : Type 0} (P : X → Type 0) (xs : List X) → ((x : X) → In x xs → P x) → All P xs
all_here {X} P xs h = All-from_recursion P xs (go xs h)
  where
    go : (ys : List X) → ((x : X) → In x ys → P x) → AllByRecursion P ys
    go [] h = tt
    go (y ∷ ys) h = (h y (inl refl), go ys (λ x i. h x (inr i)))

pub one_of_all : {X : Type 0} (P : X → Type 0) (xs : List X) (x : X) → All P xs → In x xs → P x
one_of_all {X} P xs x all i = go xs (recursion_from_All P xs all) i
  where
    go : (ys : List X) → AllByRecursion P ys → In x ys → P x
    go [] h j = absurd j
    go (y ∷ ys) h j = ⊎_elim (λ (e : x ≡ y). subst P (sym e) h.0) (λ k. go ys h.1 k) j

-- ---- what is found

pub found_there : {X : Type 0} (p : X → Bool) (xs : List X) (x : X) → find p xs ≡ Some x → In x xs
found_there p [] x e = absurd (cc)
found_there p (y ∷ ys) x e = ⊎_elim
    (λ (t : p y ≡ true). inl (ap (λ o. unwrap_or o x) (sym (rw t at e))))
    (λ (f : p y ≡ false). inr (found_there p ys x (rw f at e)))
    (cases_Bool (p y))

-- of elements that are apart, the one that passes is found
pub finds_it : {X : Type 0} (same : X → X → Bool) (p : X → Bool) (xs : List X) (x : X) → ((y z : X) → p y ≡ true → p z ≡ true → same y z ≡ true)
    → are_apart same xs ≡ true → In x xs → p x ≡ true → find p xs ≡ Some x
finds_it same p [] x key apart i h = absurd i
finds_it same p (y ∷ ys) x key apart i h =
    let r = and_parts (not (list_any (same y) ys)) (are_apart same ys) apart in
    ⊎_elim
    (λ (t : p y ≡ true). rw t (ap Some (⊎_elim (λ (e : x ≡ y). sym e) (λ k. absurd (true≢false (sym (key y x t h) ∙ any_in (same y) ys x (not_true (list_any (same y) ys) r.0) k))) i)))
    (λ (f : p y ≡ false). rw f (⊎_elim (λ (e : x ≡ y). absurd (true≢false (sym h ∙ ap p e ∙ f))) (λ k. finds_it same p ys x key r.1 k h) i))
    (cases_Bool (p y))

-- ---- elements that are apart

pub distinct_weaker : {X : Type 0} (same like : X → X → Bool) (xs : List X) → ((x y : X) → like x y ≡ true → same x y ≡ true) → are_distinct same xs ≡ true → are_distinct like xs ≡ true
distinct_weaker same like [] h d = refl
distinct_weaker same like (x ∷ xs) h d =
    let r = and_parts (not (list_any (same x) xs)) (are_distinct same xs) d in
    both (list_any (like x) xs) (are_distinct like xs)
    (none_any (like x) xs (λ y i. never_true (like x y) (λ e. true≢false (sym (h x y e) ∙ any_in (same x) xs y (not_true (list_any (same x) xs) r.0) i))))
    (distinct_weaker same like xs h r.1)
  where
    both : (a b : Bool) → a ≡ false → b ≡ true → (not a && b) ≡ true
    both a b e f = rw (e, f) refl

-- no element stands twice
abbrev pub Once : {X : Type 0} → List X → Type 0
Once [] = Unit {0}
Once (x ∷ xs) = (In x xs → ⊥) × Once xs

pub in_flat : {X Y : Type 0} (f : X → List Y) (xs : List X) (y : Y) → In y (flat_map f xs) → (x : X) × In x xs × In y (f x)
in_flat f [] y i = absurd i
in_flat f (x ∷ xs) y i = ⊎_elim (λ k. (x, inl refl, k)) (λ k. let r = in_flat f xs y k in (r.0, inr r.1, r.2)) (in_either (f x) (flat_map f xs) y i)

pub flat_in : {X Y : Type 0} (f : X → List Y) (xs : List X) (x : X) (y : Y) → In x xs → In y (f x) → In y (flat_map f xs)
flat_in f [] x y i j = absurd i
flat_in f (z ∷ zs) x y i j = ⊎_elim (λ (e : x ≡ z). in_left (f z) (flat_map f zs) y (subst (λ w. In y (f w)) e j)) (λ k. in_right (f z) (flat_map f zs) y (flat_in f zs x y k j)) i

once_joined : {X : Type 0} (xs ys : List X) → Once xs → Once ys → ((x : X) → In x xs → In x ys → ⊥) → Once (xs ++ ys)
once_joined [] ys a b h = b
once_joined (x ∷ xs) ys a b h = (
  λ i. ⊎_elim (λ k. a.0 k) (λ k. h x (inl refl) k) (in_either xs ys x i),
  once_joined xs ys a.1 b (λ y i k. h y (inr i) k),
)

pub once_flat : {X Y : Type 0} (f : X → List Y) (same : X → X → Bool) (xs : List X) → ((x : X) → Once (f x))
    → ((x z : X) (y : Y) → In y (f x) → In y (f z) → same x z ≡ true) → are_distinct same xs ≡ true → Once (flat_map f xs)
once_flat f same [] each key d = tt
once_flat f same (x ∷ xs) each key d =
    let r = and_parts (not (list_any (same x) xs)) (are_distinct same xs) d in
    once_joined (f x) (flat_map f xs) (each x) (once_flat f same xs each key r.1)
    (λ y i k. let z = in_flat f xs y k in true≢false (sym (key x z.0 y i z.2) ∙ any_in (same x) xs z.0 (not_true (list_any (same x) xs) r.0) z.1))

pub in_range : {X : Type 0} (f : ℕ → X) (a n : ℕ) (x : X) → In x (map f (range_with_len a n)) → (k : ℕ) × (a ≤ k) × (k < a + n) × (x ≡ f k)
in_range f a zero x i = absurd i
in_range f a (suc n) x i = ⊎_elim (λ (e : x ≡ f a). (a, omega arith, omega arith, e)) (λ k. let r = in_range f (a + 1) n x k in (r.0, omega (arith, r.1), omega (arith, r.2), r.3)) i

pub range_in : {X : Type 0} (f : ℕ → X) (a n k : ℕ) → a ≤ k → k < a + n → In (f k) (map f (range_with_len a n))
range_in f a zero k low high = absurd (omega (arith, low, high))
range_in f a (suc n) k low high = ⊎_elim (λ (e : a ≡ k). inl (ap f (sym e))) (λ (less : a < k). inr (range_in f (a + 1) n k (omega (arith, less)) (omega (arith, high)))) (eq-or-lt_of_le low)

pub once_range : {X : Type 0} (f : ℕ → X) (a n : ℕ) → ((j k : ℕ) → f j ≡ f k → j ≡ k) → Once (map f (range_with_len a n))
once_range f a zero inj = tt
once_range f a (suc n) inj = (
  λ i. let r = in_range f (a + 1) n (f a) i in let e : a ≡ r.0 = inj a r.0 r.3 in let l : a + 1 ≤ r.0 = r.1 in omega (arith, e, l),
  once_range f (a + 1) n inj,
)

-- ---- the same elements

splits : {X : Type 0} (ys : List X) (x : X) → In x ys → (a : List X) × ((b : List X) × (ys ≡ a ++ x ∷ b))
splits [] x i = absurd i
splits (y ∷ ys) x i = ⊎_elim
    (λ (e : x ≡ y). ([], (ys, ap (λ z. z ∷ ys) (sym e))))
    (λ k. let r = splits ys x k in (y ∷ r.0, (r.1.0, ap (λ l. y ∷ l) r.1.1))) i

without_it : {X : Type 0} (a b : List X) (x y : X) → In y (a ++ x ∷ b) → (y ≡ x → ⊥) → In y (a ++ b)
without_it [] b x y i other = ⊎_elim (λ e. absurd (other e)) (λ k. k) i
without_it (z ∷ a) b x y i other = ⊎_elim (λ e. inl e) (λ k. inr (without_it a b x y k other)) i

-- elements of which none stands twice, all of another list that is no longer, are that list in some order
pub same_elements : {X : Type 0} (xs ys : List X) → Once xs → ((x : X) → In x xs → In x ys) → length ys ≡ length xs → IsPermutation xs ys
same_elements [] [] once there long = IsPermutation-refl []
same_elements [] (y ∷ ys) once there long = absurd (omega (arith, long))
same_elements (x ∷ xs) ys once there long =
    let s = splits ys x (there x (inl refl)) in
    let a = s.0 in
    let b = s.1.0 in
    let fewer : length (a ++ b) ≡ length xs = omega (arith, long, ap length s.1.1, length-append a (x ∷ b), length-append a b) in
    let inner : IsPermutation xs (a ++ b) = same_elements xs (a ++ b) once.1
    (λ y i. without_it a b x y (subst (λ l. In y l) s.1.1 (there y (inr i))) (λ e. once.0 (subst (λ z. In z xs) e i))) fewer in
    let mid : IsPermutation (x ∷ xs) (a ++ x ∷ b) =
    IsPermutation-trans (x ∷ xs) (x ∷ (a ++ b)) (a ++ x ∷ b) (IsPermutation-cons x xs (a ++ b) inner) (IsPermutation-sym (a ++ x ∷ b) (x ∷ (a ++ b)) (IsPermutation-middle a x b)) in
    subst (IsPermutation (x ∷ xs)) (sym s.1.1) mid

pub in_permuted : {X : Type 0} (xs ys : List X) (x : X) → IsPermutation xs ys → In x xs → In x ys
in_permuted xs ys x h i = one_of_all (λ y. In y ys) xs x (All-permutation (λ y. In y ys) ys xs (IsPermutation-sym xs ys h) (all_here (λ y. In y ys) ys (λ y j. j))) i

-- ---- sums over parts

sum_none : {X : Type 0} (f : X → ℕ) (xs : List X) → ((x : X) → In x xs → f x ≡ 0) → sum_by f xs ≡ 0
sum_none f [] h = refl
sum_none f (x ∷ xs) h = let r = sum_none f xs (λ y i. h y (inr i)) in let e = h x (inl refl) in sum_by-cons f x xs ∙ omega (arith, r, e)

sum_both : {X : Type 0} (f g h : X → ℕ) (xs : List X) → ((x : X) → f x ≡ g x + h x) → sum_by f xs ≡ sum_by g xs + sum_by h xs
sum_both f g h [] e = refl
sum_both f g h (x ∷ xs) e = let r = sum_both f g h xs e in let a = e x in sum_by-cons f x xs ∙ omega (arith, r, a, sum_by-cons g x xs, sum_by-cons h x xs)

pub length_none : {X : Type 0} (p : X → Bool) (xs : List X) → ((x : X) → In x xs → p x ≡ false) → length (filter p xs) ≡ 0
length_none p [] h = refl
length_none p (x ∷ xs) h = rw (h x (inl refl)) (length_none p xs (λ y i. h y (inr i)))

bytes_turned : (a b : List ℕ) → bytes_eq a b ≡ false → bytes_eq b a ≡ false
bytes_turned a b h = ⊎_elim (λ (t : bytes_eq b a ≡ true). absurd (true≢false (sym (bytes_same b) ∙ ap (λ x. bytes_eq x b) (bytes_are b a t) ∙ h))) (λ f. f) (cases_Bool (bytes_eq b a))

-- a name that is among the names counts once
one_name : (name : List ℕ) (v : ℕ) (names : List (List ℕ)) → are_distinct bytes_eq names ≡ true → is_one_of name names ≡ true → sum_by (λ d. cond (bytes_eq name d) v 0) names ≡ v
one_name name v [] d there = absurd (true≢false (sym there))
one_name name v (x ∷ xs) d there =
    let r = and_parts (not (list_any (bytes_eq x) xs)) (are_distinct bytes_eq xs) d in
    ⊎_elim
    (λ (t : bytes_eq name x ≡ true).
    let rest : sum_by (λ e. cond (bytes_eq name e) v 0) xs ≡ 0 = sum_none (λ e. cond (bytes_eq name e) v 0) xs
    (λ e i. ap (λ b. cond b v 0) (ap (λ n. bytes_eq n e) (bytes_are name x t) ∙ any_in (bytes_eq x) xs e (not_true (list_any (bytes_eq x) xs) r.0) i)) in
    let here : cond (bytes_eq name x) v 0 ≡ v = rw t refl in
    sum_by-cons (λ e. cond (bytes_eq name e) v 0) x xs ∙ omega (arith, rest, here))
    (λ (f : bytes_eq name x ≡ false).
    let more : is_one_of name xs ≡ true = rw (bytes_turned name x f) at there in
    let rest = one_name name v xs r.1 more in
    let here : cond (bytes_eq name x) v 0 ≡ 0 = rw f refl in
    sum_by-cons (λ e. cond (bytes_eq name e) v 0) x xs ∙ omega (arith, rest, here))
    (cases_Bool (bytes_eq name x))

-- the sums over the elements of each name are the sum over all
pub parts_sum : {X : Type 0} (f : X → ℕ) (name : X → List ℕ) (names : List (List ℕ)) (xs : List X) → are_distinct bytes_eq names ≡ true → ((x : X) → In x xs → is_one_of (name x) names ≡ true)
    → sum_by (λ d. sum_by f (filter (λ x. bytes_eq (name x) d) xs)) names ≡ sum_by f xs
parts_sum f name names [] d there = sum_none (λ e. 0) names (λ e i. refl)
parts_sum {X} f name names (x ∷ xs) d there =
    sum_both (λ e. sum_by f (filter (λ y. bytes_eq (name y) e) (x ∷ xs))) (λ e. cond (bytes_eq (name x) e) (f x) 0)
    (λ e. sum_by f (filter (λ y. bytes_eq (name y) e) xs)) names (λ e. first (bytes_eq (name x) e) (filter (λ y. bytes_eq (name y) e) xs))
    ∙ (let a = one_name (name x) (f x) names d (there x (inl refl)) in let b = parts_sum f name names xs d (λ y i. there y (inr i)) in λ i. a i + b i)
    ∙ sym (sum_by-cons f x xs)
  where
    first : (b : Bool) (ys : List X) → sum_by f (cond b (x ∷ ys) ys) ≡ cond b (f x) 0 + sum_by f ys
    first true ys = sum_by-cons f x ys
    first false ys = omega arith
