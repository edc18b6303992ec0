-- Texts with one more between each two, one text at a time.
use Rattle.std.proofs.Common.{◌≡◌, ℕ, ◌+◌, ◌<◌, List, [], ◌∷◌, ◌++◌, length, map, take, get_or, zero, suc, refl, arith, append_assoc, ◌∙◌, ap}
use Rattle.std.proofs.lemmas.List.{map-append, take_more}
use Rattle.policy.specs.WrittenText.{joined}

-- texts after others
joined-both : (between x : List ℕ) (xs : List (List ℕ)) (y : List ℕ) (ys : List (List ℕ)) → joined between ((x ∷ xs) ++ y ∷ ys) ≡ joined between (x ∷ xs) ++ between ++ joined between (y ∷ ys)
joined-both between x [] y ys = refl
joined-both between x (z ∷ xs) y ys = rw (joined-both between z xs y ys) (simp append_assoc)

pub joined-some : (between : List ℕ) (xs ys : List (List ℕ)) → 0 < length xs → 0 < length ys → joined between (xs ++ ys) ≡ joined between xs ++ between ++ joined between ys
joined-some between [] ys p q = absurd (omega arith)
joined-some between (x ∷ xs) [] p q = absurd (omega arith)
joined-some between (x ∷ xs) (y ∷ ys) p q = joined-both between x xs y ys

-- the first text
pub joined-first : {A : Type 0} (between : List ℕ) (f : A → List ℕ) (xs : List A) (i : ℕ) (d : A) → i ≡ 0 → i < length xs
    → joined between (map f (take (i + 1) xs)) ≡ joined between (map f (take i xs)) ++ f (get_or xs i d)
joined-first between f xs i d z h = rw (take_more xs i d h, z) refl

-- a later text
pub joined-later : {A : Type 0} (between : List ℕ) (f : A → List ℕ) (xs : List A) (i : ℕ) (d : A) → 0 < i → i < length xs
    → joined between (map f (take (i + 1) xs)) ≡ joined between (map f (take i xs)) ++ between ++ f (get_or xs i d)
joined-later between f [] i d p h = absurd (omega arith)
joined-later between f (x ∷ xs) zero d p h = absurd (omega arith)
joined-later {A} between f (x ∷ xs) (suc i) d p h =
    let y = get_or (x ∷ xs) (suc i) d in
    ap (λ (l : List A). joined between (map f l)) (take_more (x ∷ xs) (suc i) d h)
    ∙ ap (joined between) (map-append f (take (suc i) (x ∷ xs)) (y ∷ []))
    ∙ joined-both between (f x) (map f (take i xs)) (f y) []
