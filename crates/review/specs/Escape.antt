-- A text within a page: an octet to which HTML gives a meaning is written as a reference to it.
use Rattle.std.specs.Prelude.{◌≡◌, ℕ, Bool, false, ◌==◌, ◌||◌, List, [], ◌∷◌, codes, if◌then◌else◌}
use Rattle.std.specs.List.{flat_map, list_any}

-- `&`, `<`, `>`, `"` and `'` by their references, any other octet by itself
abbrev pub escape : ℕ → List ℕ
escape b =
    if b == 38 then codes "&amp;" else
    if b == 60 then codes "&lt;" else
    if b == 62 then codes "&gt;" else
    if b == 34 then codes "&quot;" else
    if b == 39 then codes "&#39;" else b ∷ []

-- each octet of a text
abbrev pub escaped : List ℕ → List ℕ
escaped text = flat_map escape text

-- ---- a law

-- an octet that begins or ends a tag or the value of an attribute: `<`, `>`, `"` or `'`
abbrev pub is_markup : ℕ → Bool
is_markup b = b == 60 || b == 62 || b == 34 || b == 39

-- no text can begin or end one
abbrev pub NoMarkup : Type 0
NoMarkup = (text : List ℕ) → list_any is_markup (escaped text) ≡ false
