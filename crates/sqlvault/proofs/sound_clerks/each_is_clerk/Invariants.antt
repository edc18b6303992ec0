use Rattle.std.proofs.Common.{◌≡◌, true, take}
use Rattle.std.specs.List.{list_all}
use Rattle.sqlvault.specs.RowForms.{is_clerk_row}
use Rattle.sqlvault.proofs.sound_clerks.each_is_clerk.Given as goal

abbrev pub invariant-loop-row : goal.invariant-loop-row
invariant-loop-row l = list_all is_clerk_row (take l.row-index l.rows) ≡ true
