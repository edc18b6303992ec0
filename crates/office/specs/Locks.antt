-- The locks of maildrops.
use Rattle.std.specs.Prelude.{◌≡◌, ℕ, List, Option, None, Some}
use Rattle.std.specs.BTreeMap.{BTreeMap, get, Updates}
use Rattle.office.specs.Answered.{name_cmp}

-- this maildrop's lock, if one is named, is let go, and no other changes
abbrev pub Released : Option (List ℕ) → (before now : BTreeMap (List ℕ) ℕ) → Type 0
Released (Some maildrop) before now = Updates name_cmp before now maildrop None
Released None before now = (d : List ℕ) → get name_cmp now d ≡ get name_cmp before d
