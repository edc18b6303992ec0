-- Names in order: what a sort by name keeps of a list, and how it follows a name more and names less.
use Rattle.std.proofs.Common.{◌≡◌, ℕ, Bool, true, false, ◌||◌, cond, List, [], ◌∷◌, ◌++◌, length, suc, refl, sym, ◌∙◌, ap}
use Rattle.std.specs.Prelude.{filter}
use Rattle.std.specs.List.{list_any}
use Rattle.creds.specs.Names.{comes_before, put_by_name, by_name}
use Rattle.vault.proofs.OrderLemmas.{puts_commute}

-- ---- names put in their places

length-put : (n : List ℕ) (zs : List (List ℕ)) → length (put_by_name n zs) ≡ suc (length zs)
length-put n [] = refl
length-put n (x ∷ xs) = at (comes_before x n) (length-put n xs)
  where
    at : (b : Bool) → length (put_by_name n xs) ≡ suc (length xs) → length (cond b (x ∷ put_by_name n xs) (n ∷ x ∷ xs)) ≡ suc (suc (length xs))
    at true h = ap suc h
    at false h = refl

length-by_name : (xs : List (List ℕ)) → length (by_name xs) ≡ length xs
length-by_name [] = refl
length-by_name (x ∷ xs) = length-put x (by_name xs) ∙ ap suc (length-by_name xs)

swap_or : (a b c : Bool) → (a || (b || c)) ≡ (b || (a || c))
swap_or true true c = refl
swap_or true false c = refl
swap_or false true c = refl
swap_or false false c = refl

any-put : (p : List ℕ → Bool) (n : List ℕ) (zs : List (List ℕ)) → list_any p (put_by_name n zs) ≡ (p n || list_any p zs)
any-put p n [] = refl
any-put p n (x ∷ xs) = at (comes_before x n) (any-put p n xs)
  where
    at : (b : Bool) → list_any p (put_by_name n xs) ≡ (p n || list_any p xs) → list_any p (cond b (x ∷ put_by_name n xs) (n ∷ x ∷ xs)) ≡ (p n || (p x || list_any p xs))
    at true h = ap (λ r. p x || r) h ∙ swap_or (p x) (p n) (list_any p xs)
    at false h = refl

any-by_name : (p : List ℕ → Bool) (xs : List (List ℕ)) → list_any p (by_name xs) ≡ list_any p xs
any-by_name p [] = refl
any-by_name p (x ∷ xs) = any-put p x (by_name xs) ∙ ap (λ r. p x || r) (any-by_name p xs)

-- with a name kept or left out
kept_at : (b : Bool) (x : List ℕ) (xs ys : List (List ℕ)) → by_name xs ≡ by_name ys → by_name (cond b (x ∷ xs) xs) ≡ by_name (cond b (x ∷ ys) ys)
kept_at true x xs ys h = ap (put_by_name x) h
kept_at false x xs ys h = h

-- two kept or left out, in either order
swapped : (b c : Bool) (x n : List ℕ) (xs : List (List ℕ))
    → by_name (cond b (x ∷ cond c (n ∷ xs) xs) (cond c (n ∷ xs) xs)) ≡ by_name (cond c (n ∷ cond b (x ∷ xs) xs) (cond b (x ∷ xs) xs))
swapped true true x n xs = puts_commute x n (by_name xs)
swapped true false x n xs = refl
swapped false true x n xs = refl
swapped false false x n xs = refl

filter-put : (p : List ℕ → Bool) (n : List ℕ) (zs : List (List ℕ)) → by_name (filter p (put_by_name n zs)) ≡ by_name (filter p (n ∷ zs))
filter-put p n [] = refl
filter-put p n (x ∷ xs) = at (comes_before x n) (filter-put p n xs)
  where
    at : (b : Bool) → by_name (filter p (put_by_name n xs)) ≡ by_name (filter p (n ∷ xs))
        → by_name (filter p (cond b (x ∷ put_by_name n xs) (n ∷ x ∷ xs))) ≡ by_name (filter p (n ∷ x ∷ xs))
    at true h = kept_at (p x) x (filter p (put_by_name n xs)) (filter p (n ∷ xs)) h ∙ swapped (p x) (p n) x n (filter p xs)
    at false h = refl

filter-by_name : (p : List ℕ → Bool) (xs : List (List ℕ)) → by_name (filter p xs) ≡ by_name (filter p (by_name xs))
filter-by_name p [] = refl
filter-by_name p (x ∷ xs) =
    kept_at (p x) x (filter p xs) (filter p (by_name xs)) (filter-by_name p xs)
    ∙ sym (filter-put p x (by_name xs))

last-by_name : (xs : List (List ℕ)) (n : List ℕ) → by_name (xs ++ n ∷ []) ≡ put_by_name n (by_name xs)
last-by_name [] n = refl
last-by_name (x ∷ xs) n = ap (put_by_name x) (last-by_name xs n) ∙ puts_commute x n (by_name xs)

-- ---- lists with the same names

pub same_length : (xs ys : List (List ℕ)) → by_name xs ≡ by_name ys → length xs ≡ length ys
same_length xs ys e = sym (length-by_name xs) ∙ (ap length e ∙ length-by_name ys)

pub same_any : (p : List ℕ → Bool) (xs ys : List (List ℕ)) → by_name xs ≡ by_name ys → list_any p xs ≡ list_any p ys
same_any p xs ys e = sym (any-by_name p xs) ∙ (ap (list_any p) e ∙ any-by_name p ys)

pub same_filter : (p : List ℕ → Bool) (xs ys : List (List ℕ)) → by_name xs ≡ by_name ys → by_name (filter p xs) ≡ by_name (filter p ys)
same_filter p xs ys e = filter-by_name p xs ∙ (ap (λ zs. by_name (filter p zs)) e ∙ sym (filter-by_name p ys))

pub same_last : (n : List ℕ) (xs ys : List (List ℕ)) → by_name xs ≡ by_name ys → by_name (xs ++ n ∷ []) ≡ by_name (ys ++ n ∷ [])
same_last n xs ys e = last-by_name xs n ∙ (ap (put_by_name n) e ∙ sym (last-by_name ys n))
