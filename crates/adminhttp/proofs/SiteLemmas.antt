-- What stands before the first element of a kind.
use Rattle.std.proofs.Common.{◌≡◌, ℕ, ◌≤◌, List, length, take, Some, None, Bool, true, false, cond, nat_lt, refl, sym, ap, arith, take_all}
use Rattle.std.proofs.lemmas.Bool.Decides.{nat_tests}
use Rattle.std.specs.List.{before_first, position, position_or_len}

pub before_found : (p : ℕ → Bool) (xs : List ℕ) (at : ℕ) → position p xs ≡ Some at → take at xs ≡ before_first p xs
before_found p xs at is = by (nat_lt (position_or_len p xs) (length xs)) is
  where
    by : (b : Bool) → cond b (Some (position_or_len p xs)) None ≡ Some at → take at xs ≡ before_first p xs
    by true e = let same : position_or_len p xs ≡ at = cc in ap (λ n. take n xs) (sym same)
    by false e = absurd (cc e)

pub before_none : (p : ℕ → Bool) (xs : List ℕ) → position p xs ≡ None → xs ≡ before_first p xs
before_none p xs is = by (nat_lt (position_or_len p xs) (length xs)) refl is
  where
    by : (b : Bool) → nat_lt (position_or_len p xs) (length xs) ≡ b → cond b (Some (position_or_len p xs)) None ≡ None → xs ≡ before_first p xs
    by true q e = absurd (cc e)
    by false q e = let all : length xs ≤ position_or_len p xs = grind (arith, nat_tests) in sym (take_all (position_or_len p xs) xs all)
