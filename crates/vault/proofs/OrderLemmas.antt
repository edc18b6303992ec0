-- Names in order: a name is put in its place, and names are put in one after another, the last one first.
use Rattle.std.proofs.Common.{◌≡◌, ℕ, ◌+◌, ◌≤◌, Bool, true, false, not, List, [], ◌∷◌, length, cond, suc, refl, sym, ◌∙◌, ap, arith, true≢false}
use Rattle.std.specs.Prelude.{insert, position, unwrap_or, nat_lt, ◌==◌, if◌then◌else◌, Some, None}
use Rattle.std.specs.List.{prefix_len, position_or_len}
use Rattle.std.proofs.lemmas.Bool.Decides.{nat_tests}
use Rattle.creds.specs.Names.{comes_before, put_by_name}

-- in front of the first that doesn't come before it
put_at : (x name : List ℕ) (b : Bool) (xs : List (List ℕ)) (n : ℕ) → put_by_name name xs ≡ insert xs n name
    → (if b then x ∷ put_by_name name xs else name ∷ x ∷ xs) ≡ insert (x ∷ xs) (cond (not (not b)) (1 + n) 0) name
put_at x name true xs n h = let e : 1 + n ≡ suc n = omega arith in rw (e, h) refl
put_at x name false xs n h = refl

put_is_insert : (name : List ℕ) (xs : List (List ℕ)) → put_by_name name xs ≡ insert xs (position_or_len (λ x. not (comes_before x name)) xs) name
put_is_insert name [] = refl
put_is_insert name (x ∷ xs) = put_at x name (comes_before x name) xs (position_or_len (λ y. not (comes_before y name)) xs) (put_is_insert name xs)

place_is : (m n : ℕ) → m ≤ n → unwrap_or (cond (nat_lt m n) (Some m) None) n ≡ m
place_is m n h = grind (arith, nat_tests)

prefix_within : (p : List ℕ → Bool) (xs : List (List ℕ)) → prefix_len p xs ≤ length xs
prefix_within p [] = omega arith
prefix_within p (x ∷ xs) = within (p x) (prefix_len p xs) (length xs) (prefix_within p xs)
  where
    within : (b : Bool) (m n : ℕ) → m ≤ n → cond b (1 + m) 0 ≤ suc n
    within true m n h = omega arith
    within false m n h = omega arith

pub put_is_insert_at : (name : List ℕ) (xs : List (List ℕ))
    → put_by_name name xs ≡ insert xs (unwrap_or (position (λ x. not (comes_before x name)) xs) (length xs)) name
put_is_insert_at name xs =
    let e = place_is (position_or_len (λ x. not (comes_before x name)) xs) (length xs) (prefix_within (λ x. not (not (comes_before x name))) xs) in
    put_is_insert name xs ∙ ap (λ n. insert xs n name) (sym e)

-- ---- the order of names

-- neither comes before the other
same_first : (x y : ℕ) (p q : Bool) → cond (x == y) p (nat_lt x y) ≡ false → cond (y == x) q (nat_lt y x) ≡ false → x ≡ y
same_first x y p q h k = grind (arith, nat_tests)

same_rest : (x y : ℕ) (p q : Bool) → x ≡ y → cond (x == y) p (nat_lt x y) ≡ false → p ≡ false
same_rest x y p q e h = grind (arith, nat_tests)

same_name : (a b : List ℕ) → comes_before a b ≡ false → comes_before b a ≡ false → a ≡ b
same_name [] [] h k = refl
same_name [] (y ∷ ys) h k = absurd (true≢false h)
same_name (x ∷ xs) [] h k = absurd (true≢false k)
same_name (x ∷ xs) (y ∷ ys) h k =
    let e = same_first x y (comes_before xs ys) (comes_before ys xs) h k in
    let p : comes_before xs ys ≡ false = same_rest x y (comes_before xs ys) true e h in
    let q : comes_before ys xs ≡ false = same_rest y x (comes_before ys xs) true (sym e) k in
    let r = same_name xs ys p q in
    rw (e, r) refl

-- of two only one comes before the other
one_way_at : (x y : ℕ) (p q : Bool) → (p ≡ true → q ≡ false) → cond (x == y) p (nat_lt x y) ≡ true → cond (y == x) q (nat_lt y x) ≡ false
one_way_at x y p q f h = grind (arith, nat_tests)

one_way : (a b : List ℕ) → comes_before a b ≡ true → comes_before b a ≡ false
one_way [] [] h = absurd (true≢false (sym h))
one_way [] (y ∷ ys) h = refl
one_way (x ∷ xs) [] h = absurd (true≢false (sym h))
one_way (x ∷ xs) (y ∷ ys) h = one_way_at x y (comes_before xs ys) (comes_before ys xs) (one_way xs ys) h

-- what isn't after x comes before what is
goes_first_at : (x y z : ℕ) (p q r : Bool) → (p ≡ true → q ≡ false → r ≡ true) → cond (x == y) p (nat_lt x y) ≡ true → cond (x == z) q (nat_lt x z) ≡ false
    → cond (z == y) r (nat_lt z y) ≡ true
goes_first_at x y z p q r f h k = grind (arith, nat_tests)

goes_first : (x a b : List ℕ) → comes_before x a ≡ true → comes_before x b ≡ false → comes_before b a ≡ true
goes_first [] [] b h k = absurd (true≢false (sym h))
goes_first [] (y ∷ ys) [] h k = refl
goes_first [] (y ∷ ys) (z ∷ zs) h k = absurd (true≢false k)
goes_first (x ∷ xs) [] b h k = absurd (true≢false (sym h))
goes_first (x ∷ xs) (y ∷ ys) [] h k = refl
goes_first (x ∷ xs) (y ∷ ys) (z ∷ zs) h k = goes_first_at x y z (comes_before xs ys) (comes_before xs zs) (comes_before zs ys) (goes_first xs ys zs) h k

-- ---- names put in their places

-- the order in which two names are put in is nothing
pub puts_commute : (a b : List ℕ) (zs : List (List ℕ)) → put_by_name a (put_by_name b zs) ≡ put_by_name b (put_by_name a zs)
puts_commute a b [] = at (comes_before b a) refl (comes_before a b) refl
  where
    at : (p : Bool) → comes_before b a ≡ p → (q : Bool) → comes_before a b ≡ q → cond p (b ∷ a ∷ []) (a ∷ b ∷ []) ≡ cond q (a ∷ b ∷ []) (b ∷ a ∷ [])
    at true e true f = absurd (true≢false (sym f ∙ one_way b a e))
    at true e false f = refl
    at false e true f = refl
    at false e false f = let s = same_name a b f e in rw s refl
puts_commute a b (x ∷ xs) = at (puts_commute a b xs) (comes_before x a) refl (comes_before x b) refl
  where
    last : (p : Bool) → comes_before b a ≡ p → (q : Bool) → comes_before a b ≡ q
        → cond p (b ∷ a ∷ x ∷ xs) (a ∷ b ∷ x ∷ xs) ≡ cond q (a ∷ b ∷ x ∷ xs) (b ∷ a ∷ x ∷ xs)
    last true e true f = absurd (true≢false (sym f ∙ one_way b a e))
    last true e false f = refl
    last false e true f = refl
    last false e false f = let s = same_name a b f e in rw s refl

    at : put_by_name a (put_by_name b xs) ≡ put_by_name b (put_by_name a xs) → (p : Bool) → comes_before x a ≡ p → (q : Bool) → comes_before x b ≡ q
        → put_by_name a (cond q (x ∷ put_by_name b xs) (b ∷ x ∷ xs)) ≡ put_by_name b (cond p (x ∷ put_by_name a xs) (a ∷ x ∷ xs))
    at h true e true f = rw (e, f) (ap (λ zs. x ∷ zs) h)
    at h true e false f = let g = goes_first x a b e f in rw (g, e, f) refl
    at h false e true f = let g = goes_first x b a f e in rw (g, e, f) refl
    at h false e false f = rw (e, f) (last (comes_before b a) refl (comes_before a b) refl)
