-- A script's TEXT: any octets, written in printable ASCII. The escapes are `\r`, `\n`, `\\`, and `\x` with two hexadecimal digits.
use Rattle.std.specs.Prelude.{◌≡◌, ℕ, ◌+◌, ◌*◌, ◌/◌, ◌%◌, ◌<◌, false, ◌&&◌, ◌==◌, List, [], ◌∷◌, ◌++◌, Option, Some, None, option_map, codes, if◌then◌else◌}
use Rattle.std.specs.Char.{digit_value, is_digit}
use Rattle.std.specs.Fmt.{digit_glyph}
use Rattle.std.specs.List.{All, flat_map}
use Rattle.creds.specs.Names.{is_printable}

-- ---- written

-- an octet by its two lower-case hexadecimal digits
abbrev pub by_digits : ℕ → List ℕ
by_digits b = codes "\\x" ++ digit_glyph false (b / 16) ∷ digit_glyph false (b % 16) ∷ []

-- an octet as it is written: printable ASCII stands for itself, but for `\`
abbrev pub escape : ℕ → List ℕ
escape b = if b == 13 then codes "\\r" else (if b == 10 then codes "\\n" else (if b == 92 then codes "\\\\" else (if is_printable b then b ∷ [] else by_digits b)))

-- octets as they are written
abbrev pub escaped : List ℕ → List ℕ
escaped octets = flat_map escape octets

-- ---- read

-- an octet before the octets that a rest stands for; none if the rest has no form
abbrev pub led : ℕ → Option (List ℕ) → Option (List ℕ)
led b rest = option_map (λ octets. b ∷ octets) rest

-- the octets that a TEXT stands for; none if a `\` begins no escape
abbrev mutual
  pub unescaped : List ℕ → Option (List ℕ)
  unescaped [] = Some []
  unescaped (b ∷ text) = if b == 92 then behind_backslash text else led b (unescaped text)

  pub behind_backslash : List ℕ → Option (List ℕ)
  behind_backslash [] = None
  behind_backslash (b ∷ text) =
      if b == 114 then led 13 (unescaped text)
      else (if b == 110 then led 10 (unescaped text) else (if b == 92 then led 92 (unescaped text) else (if b == 120 then behind_x text else None)))

  pub behind_x : List ℕ → Option (List ℕ)
  behind_x [] = None
  behind_x (high ∷ []) = None
  behind_x (high ∷ low ∷ text) = if is_digit high 16 && is_digit low 16 then led (16 * digit_value high + digit_value low) (unescaped text) else None

-- octets that are written are read back as themselves
abbrev pub IsReadBack : Type 0
IsReadBack = (octets : List ℕ) → All (λ b. b < 256) octets → unescaped (escaped octets) ≡ Some octets
