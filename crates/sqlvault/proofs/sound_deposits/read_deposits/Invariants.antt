use Rattle.std.proofs.Common.{◌≡◌, true, map, take}
use Rattle.std.specs.List.{list_all}
use Rattle.sqlvault.specs.Numbers.{is_deposit_row, number_of, IsSetOf}
use Rattle.sqlvault.proofs.sound_deposits.read_deposits.Given as goal

abbrev pub invariant-loop-row : goal.invariant-loop-row
invariant-loop-row l = (list_all is_deposit_row (take l.row-index l.rows) ≡ true) × IsSetOf (map number_of (take l.row-index l.rows)) l.numbers
