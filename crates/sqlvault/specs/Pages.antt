-- The octets of consecutive sheets among rows in any order.
use Rattle.std.specs.Prelude.{ℕ, zero, suc, ◌+◌, ℤ, pos, Bool, List, [], ◌++◌, Option, Some, None}
use Rattle.std.specs.List.{find}
use Rattle.mailsql.specs.declared.rows.Sheet.{Sheet}
use Rattle.mailsql.specs.Rows.{same_int}

-- the sheet is at this place
abbrev pub is_at : ℤ → Sheet → Bool
is_at place s = same_int s.place place

-- the octets of a sheet and what stands after it; nothing if the sheet isn't there
abbrev pub with_behind : Option Sheet → List ℕ → List ℕ
with_behind None behind = []
with_behind (Some s) behind = s.octets ++ behind

-- the octets of the sheets at the n places from this one on, up to the first place without a sheet
abbrev pub octets_from : (n : ℕ) → List Sheet → (place : ℕ) → List ℕ
octets_from zero sheets place = []
octets_from (suc n) sheets place =
    with_behind (find (is_at (pos place)) sheets) (octets_from n sheets (place + 1))
