use Rattle.std.proofs.Common.{◌≡◌, ◌^◌, ◌-◌, min, take}
use Rattle.std.specs.Prelude.{sum_by}
use Rattle.sqlvault.specs.Stored.{sheets_in}
use Rattle.sqlvault.proofs.sound_messages.count_sheets.Given as goal

abbrev pub invariant-loop-row : goal.invariant-loop-row
invariant-loop-row l = l.sheets ≡ min (sum_by sheets_in (take l.row-index l.rows)) (2 ^ 64 - 1)
