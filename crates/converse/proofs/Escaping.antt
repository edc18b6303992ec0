-- Octets that are read of a TEXT one by one, and what is written of octets.
use Rattle.std.proofs.Common.{◌≡◌, ℕ, ◌+◌, ◌*◌, ◌/◌, ◌%◌, ◌<◌, ◌==◌, Bool, true, false, List, [], ◌∷◌, ◌++◌, Option, Some, None, refl, ap, ◌∙◌, sym, append_assoc, lt-ltb, arith}
use Rattle.std.proofs.lemmas.Bool.{eqb-true}
use Rattle.std.proofs.lemmas.Bool.Decides.{nat_tests}
use Rattle.std.proofs.lemmas.List.Elements.{recursion_from_All}
use Rattle.std.specs.Char.{digit_value, is_digit}
use Rattle.std.specs.Fmt.{digit_glyph}
use Rattle.std.specs.List.{AllByRecursion}
use Rattle.std.specs.Prelude.{option_map}
use Rattle.creds.specs.Names.{is_printable}
use Rattle.converse.specs.Escapes.{escape, escaped, by_digits, led, unescaped, IsReadBack}

-- octets in front of the octets of a rest, if that has octets
abbrev pub behind : List ℕ → Option (List ℕ) → Option (List ℕ)
behind before rest = option_map (λ octets. before ++ octets) rest

behind_led : (before : List ℕ) (b : ℕ) (rest : Option (List ℕ)) → behind before (led b rest) ≡ behind (before ++ b ∷ []) rest
behind_led before b None = refl
behind_led before b (Some octets) = ap Some (sym (append_assoc before (b ∷ []) octets))

-- one more octet was read
pub behind_more : (whole now after : Option (List ℕ)) (before read : List ℕ) (b : ℕ) → whole ≡ behind before now → now ≡ led b after → read ≡ before ++ b ∷ [] → whole ≡ behind read after
behind_more whole now after before read b is next pushed =
    is ∙ ap (behind before) next ∙ behind_led before b after ∙ ap (λ bs. behind bs after) (sym pushed)

-- ---- what is written is read back

glyph_value : (d : ℕ) → d < 16 → digit_value (digit_glyph false d) ≡ d
glyph_value d h = grind (arith, nat_tests)

glyph_digit : (d : ℕ) → d < 16 → is_digit (digit_glyph false d) 16 ≡ true
glyph_digit d h = rw (glyph_value d h, lt-ltb d 16 h)

digits_read : (b : ℕ) (text : List ℕ) → b < 256 → unescaped (by_digits b ++ text) ≡ led b (unescaped text)
digits_read b text h =
    let high : b / 16 < 16 = omega arith in
    let low : b % 16 < 16 = omega arith in
    let value : 16 * (b / 16) + b % 16 ≡ b = omega arith in
    rw (glyph_digit (b / 16) high, glyph_digit (b % 16) low, glyph_value (b / 16) high, glyph_value (b % 16) low, value)

-- by the tests of what is written
octet_read : (cr lf backslash printable : Bool) (b : ℕ) (text : List ℕ) → b < 256 → (b == 13) ≡ cr → (b == 10) ≡ lf → (b == 92) ≡ backslash → is_printable b ≡ printable
    → unescaped (escape b ++ text) ≡ led b (unescaped text)
octet_read true lf backslash printable b text h is_cr _ _ _ = rw is_cr (ap (λ x. led x (unescaped text)) (sym (eqb-true b 13 is_cr)))
octet_read false true backslash printable b text h is_cr is_lf _ _ = rw (is_cr, is_lf) (ap (λ x. led x (unescaped text)) (sym (eqb-true b 10 is_lf)))
octet_read false false true printable b text h is_cr is_lf is_backslash _ =
    rw (is_cr, is_lf, is_backslash) (ap (λ x. led x (unescaped text)) (sym (eqb-true b 92 is_backslash)))
octet_read false false false true b text h is_cr is_lf is_backslash printable = rw (is_cr, is_lf, is_backslash, printable) (rw is_backslash)
octet_read false false false false b text h is_cr is_lf is_backslash printable = rw (is_cr, is_lf, is_backslash, printable) (digits_read b text h)

all_read : (octets : List ℕ) → AllByRecursion (λ b. b < 256) octets → unescaped (escaped octets) ≡ Some octets
all_read [] h = refl
all_read (b ∷ octets) h = octet_read _ _ _ _ b (escaped octets) h.0 refl refl refl refl ∙ ap (led b) (all_read octets h.1)

-- the law
pub read_back : IsReadBack
read_back octets h = all_read octets (recursion_from_All _ octets h)
