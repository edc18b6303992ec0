-- How many octets of a connection's input an office keeps.
use Rattle.std.specs.Prelude.{ℕ, ◌+◌, length, Option, Some, None}
use Rattle.std.specs.Ordering.{nat_cmp}
use Rattle.std.specs.BTreeMap.{get}
use Rattle.office.specs.Kept.{Kept}
use Rattle.office.specs.declared.office.Office.{Office}

-- at most so many octets: 255 of a line and 4,096 of a piece
abbrev pub most_input : ℕ
most_input = 4351

-- octets of the line that is being cut, and octets that aren't cut yet
abbrev pub length_of_input : Option Kept → ℕ
length_of_input None = 0
length_of_input (Some k) = length k.held.octets + length k.pending

-- how many octets of its input are kept of a connection of this number
abbrev pub input_kept : {V : Type 0} → Office V → ℕ → ℕ
input_kept o c = length_of_input (get nat_cmp o.connections c)
