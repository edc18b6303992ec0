-- The order of names by their octets is the order by which Rust compares slices.
use Rattle.std.proofs.Common.{◌≡◌, ℕ, List, [], ◌∷◌, refl, arith}
use Rattle.std.proofs.lemmas.Bool.Decides.{nat_tests}
use Rattle.std.specs.Cmp.Lexicographic.{slice_cmp}
use Rattle.std.specs.Ordering.{is_lt, nat_cmp}
use Rattle.creds.specs.Names.{comes_before}

pub is_lt-slice_cmp : (xs ys : List ℕ) → is_lt (slice_cmp nat_cmp xs ys) ≡ comes_before xs ys
is_lt-slice_cmp [] [] = refl
is_lt-slice_cmp [] (y ∷ ys) = refl
is_lt-slice_cmp (x ∷ xs) [] = refl
is_lt-slice_cmp (x ∷ xs) (y ∷ ys) = let rest = is_lt-slice_cmp xs ys in grind (arith, nat_tests)
