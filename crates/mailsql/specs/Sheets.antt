-- A text as the sheets of its message: consecutive pieces of 4,096 octets, of which the last may be
-- shorter and none is empty, at places counted from 0.
use Rattle.std.specs.Prelude.{◌≡◌, ℕ, ◌+◌, ◌*◌, ◌<◌, ◌≤◌, ℤ, pos, List, [], ◌∷◌, ◌++◌, length, map, take, drop, Some}
use Rattle.std.specs.Int.{div_ceil}
use Rattle.std.specs.List.{range_with_len, find}
use Rattle.mailsql.specs.Columns.{Sheet}
use Rattle.mailsql.specs.Rows.{is_sheet}

-- the octets of a whole sheet
abbrev pub whole : ℕ
whole = 4096

-- how many sheets a text has
abbrev pub sheet_count : List ℕ → ℕ
sheet_count text = div_ceil (length text) whole

-- the octets of the sheet at this place
abbrev pub octets_at : List ℕ → ℕ → List ℕ
octets_at text place = take whole (drop (place * whole) text)

-- the sheet at this place
abbrev pub sheet_at : ℤ → List ℕ → ℕ → Sheet
sheet_at mail text place = record { mail = mail; place = pos place; octets = octets_at text place }

-- the first n sheets of a text
abbrev pub first_sheets : ℕ → ℤ → List ℕ → List Sheet
first_sheets n mail text = map (sheet_at mail text) (range_with_len 0 n)

-- n sheets of a text, from this place on
abbrev pub sheets_from : (from n : ℕ) → ℤ → List ℕ → List Sheet
sheets_from from n mail text = map (sheet_at mail text) (range_with_len from n)

-- all sheets of a text
abbrev pub sheets_of : ℤ → List ℕ → List Sheet
sheets_of mail text = first_sheets (sheet_count text) mail text

-- the octets of sheets, one after the other
abbrev pub joined : List Sheet → List ℕ
joined [] = []
joined (s ∷ sheets) = s.octets ++ joined sheets

-- joined, the sheets are the text; each but the last is whole, and none is empty; and each is found at its place
pub record IsCut (mail : ℤ) (text : List ℕ) : Type 0 where
  pub text_is : joined (sheets_of mail text) ≡ text
  pub are_whole : (place : ℕ) → place + 1 < sheet_count text → length (octets_at text place) ≡ whole
  pub are_sized : (place : ℕ) → place < sheet_count text → (0 < length (octets_at text place)) × (length (octets_at text place) ≤ whole)
  pub are_found : (place : ℕ) → place < sheet_count text → find (is_sheet mail (pos place)) (sheets_of mail text) ≡ Some (sheet_at mail text place)

-- every text is cut so, whatever its message
abbrev pub SheetsAreTheText : Type 0
SheetsAreTheText = (mail : ℤ) (text : List ℕ) → IsCut mail text
