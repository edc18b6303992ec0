-- Digits that write too large a number.
use Rattle.std.proofs.Common.{◌≡◌, ℕ, ◌+◌, ◌*◌, ◌<◌, ◌≤◌, List, [], ◌∷◌, length, get_or, drop, Bool, true, false, nat_le, IsTrue, refl, sym, ◌∙◌, arith}
use Rattle.std.proofs.lemmas.Bool.Decides.{nat_tests}
use Rattle.std.proofs.lemmas.List.{drop_more}
use Rattle.std.proofs.lemmas.Bool.{false≢true}
use Rattle.std.proofs.lemmas.List.Folds.{list_all_at}
use Rattle.std.specs.Char.{digit_value, is_ascii_digit}
use Rattle.std.specs.List.{list_all}
use Rattle.std.specs.Str.Parse.{digits_value, digits_value_after}

-- more digits write no smaller number
grows : (n : ℕ) (digits : List ℕ) → n ≤ digits_value_after 10 n digits
grows n [] = omega arith
grows n (d ∷ digits) =
    let more = grows (n * 10 + digit_value d) digits in
    omega (arith, more)

pub too_many : (digits : List ℕ) (i n most : ℕ) → i < length digits → digits_value 10 digits ≡ digits_value_after 10 n (drop i digits)
    → most < n * 10 + digit_value (get_or digits i 0) → nat_le (digits_value 10 digits) most ≡ false
too_many digits i n most h is over =
    let seen = drop_more digits i 0 h in
    let there = rw seen at is in
    let more = grows (n * 10 + digit_value (get_or digits i 0)) (drop (i + 1) digits) in
    grind (arith, nat_tests, there, more)

pub digit_at : (digits : List ℕ) (i : ℕ) → i < length digits → IsTrue (list_all is_ascii_digit digits) → digit_value (get_or digits i 0) + 48 ≡ get_or digits i 0
digit_at digits i h all = by (is_ascii_digit (get_or digits i 0)) refl
  where
    by : (b : Bool) → is_ascii_digit (get_or digits i 0) ≡ b → digit_value (get_or digits i 0) + 48 ≡ get_or digits i 0
    by true e = grind (arith, nat_tests)
    by false e = absurd (false≢true (sym (list_all_at is_ascii_digit digits i 0 h e) ∙ all))
