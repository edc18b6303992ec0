-- A number of 1 to 20 digits in the words of `specs/Numbers`.
use Rattle.std.proofs.Common.{◌≡◌, ℕ, ◌^◌, ◌<◌, ◌≤◌, Bool, true, false, ◌&&◌, cond, List, [], ◌∷◌, length, Option, Some, None, refl, sym, ap, ◌∙◌, lt-ltb, le-leb, arith}
use Rattle.std.proofs.lemmas.Bool.Decides.{nat_tests}
use Rattle.std.proofs.lemmas.Bool.{false≢true}
use Rattle.std.specs.Char.{digit_value, is_digit}
use Rattle.std.specs.List.{list_all}
use Rattle.std.specs.Prelude.{SomeIff, nat_lt, nat_le}
use Rattle.std.specs.Str.Parse.{AllDigits, IsNumeral, digits_value}
use Rattle.office.specs.Numbers.{is_number, number_of}
use Rattle.office.proofs.SmallLemmas.{nat_lt-true, nat_le-true}

abbrev is_decimal : ℕ → Bool
is_decimal b = is_digit b 10

test_of_digits : (bs : List ℕ) → AllDigits 10 bs → list_all is_decimal bs ≡ true
test_of_digits [] h = refl
test_of_digits (b ∷ bs) h = rw (lt-ltb (digit_value b) 10 h.0) (test_of_digits bs h.1)

digits_of_test : (bs : List ℕ) → list_all is_decimal bs ≡ true → AllDigits 10 bs
digits_of_test [] h = tt
digits_of_test (b ∷ bs) h = (both_left b (list_all is_decimal bs) h, digits_of_test bs (both_right (is_decimal b) (list_all is_decimal bs) h))
  where
    both_left : (b : ℕ) (q : Bool) → (is_decimal b && q) ≡ true → digit_value b < 10
    both_left b q h = grind (arith, nat_tests)

    both_right : (p q : Bool) → (p && q) ≡ true → q ≡ true
    both_right true q h = h
    both_right false q h = absurd (false≢true h)

-- what a number is, in the words of std
abbrev Numeral : List ℕ → Type 0
Numeral field = IsNumeral 10 field × (length field ≤ 20) × (digits_value 10 field < 2 ^ 64)

four : (p q r s : Bool) → p ≡ true → q ≡ true → r ≡ true → s ≡ true → (p && q && r && s) ≡ true
four p q r s hp hq hr hs = rw (hp, hq, hr, hs)

of_four : (p q r s : Bool) → (p && q && r && s) ≡ true → (p ≡ true) × (q ≡ true) × (r ≡ true) × (s ≡ true)
of_four true true true true h = (refl, refl, refl, refl)
of_four true true true false h = absurd (false≢true h)
of_four true true false s h = absurd (false≢true h)
of_four true false r s h = absurd (false≢true h)
of_four false q r s h = absurd (false≢true h)

test_of_numeral : (field : List ℕ) → Numeral field → is_number field ≡ true
test_of_numeral field h =
    four _ _ _ _ (lt-ltb 0 (length field) h.0.0) (test_of_digits field h.0.1) (le-leb (length field) 20 h.1) (lt-ltb (digits_value 10 field) (2 ^ 64) h.2)

numeral_of_test : (field : List ℕ) → is_number field ≡ true → Numeral field
numeral_of_test field h =
    let t = of_four (nat_lt 0 (length field)) (list_all is_decimal field) (nat_le (length field) 20) (nat_lt (digits_value 10 field) (2 ^ 64)) h in
    ((nat_lt-true 0 (length field) t.0, digits_of_test field t.1), nat_le-true (length field) 20 t.2, nat_lt-true (digits_value 10 field) (2 ^ 64) t.3)

number_by : (r : Option ℕ) (field : List ℕ) (b : Bool) → is_number field ≡ b → SomeIff r (Numeral field) (digits_value 10 field) → r ≡ cond b (Some (digits_value 10 field)) None
number_by (Some n) field true e h = ap Some h.1
number_by (Some n) field false e h = absurd (false≢true (sym e ∙ test_of_numeral field h.0))
number_by None field true e h = absurd (h (numeral_of_test field e))
number_by None field false e h = refl

-- what std reads of a field is its number
pub number_is : (r : Option ℕ) (field : List ℕ) → SomeIff r (IsNumeral 10 field × (length field ≤ 20) × (digits_value 10 field < 2 ^ 64)) (digits_value 10 field) → r ≡ number_of field
number_is r field h = number_by r field (is_number field) refl h
