-- Parts of octets.
use Rattle.std.proofs.Common.{◌≡◌, ℕ, zero, suc, ◌≤◌, List, [], ◌∷◌, take, length, min, refl, ap}
use Rattle.std.proofs.Common.{◌∙◌, arith}
use Rattle.std.proofs.lemmas.List.{take_min}

min_comm : (a b : ℕ) → min a b ≡ min b a
min_comm a b = omega arith

-- the front of a list, by a number that was bounded
pub front_is : (n most : ℕ) (xs ys : List ℕ) → n ≡ min (length xs) most → xs ≡ ys
    → take n xs ≡ take most ys
front_is n most xs ys e is =
    ap (λ m. take m xs) (e ∙ min_comm (length xs) most) ∙ (take_min most xs ∙ ap (take most) is)

-- the front of a front
pub front_of_front : (n most : ℕ) (xs : List ℕ) → n ≤ length (take most xs)
    → take n (take most xs) ≡ take n xs
front_of_front zero most xs h = refl
front_of_front (suc n) zero xs h = absurd (omega (arith, h))
front_of_front (suc n) (suc most) [] h = refl
front_of_front (suc n) (suc most) (x ∷ xs) h =
    ap (λ ys. x ∷ ys) (front_of_front n most xs (omega (arith, h)))
