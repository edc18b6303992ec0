-- A text as sheets: consecutive parts of 4,096 octets; the last may be shorter, and none is empty.
use Rattle.std.specs.Prelude.{ℕ, Bool, true, ◌&&◌, ◌==◌, nat_lt, nat_le, List, [], ◌∷◌, length}
use Rattle.vault.specs.declared.sheets.TheConstants.{SHEET_OCTETS}

-- each sheet but the last has 4,096 octets, and none is empty
abbrev pub are_sheets : List (List ℕ) → Bool
are_sheets [] = true
are_sheets (p ∷ []) = nat_lt 0 (length p) && nat_le (length p) SHEET_OCTETS
are_sheets (p ∷ q ∷ ps) = length p == SHEET_OCTETS && are_sheets (q ∷ ps)
