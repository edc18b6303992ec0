use Rattle.std.proofs.Common.{◌≡◌, ◌+◌, true, List, take}
use Rattle.std.specs.Prelude.{sum_by}
use Rattle.std.specs.List.{list_all}
use Rattle.sqlvault.specs.Numbers as spec
use Rattle.sqlvault.proofs.sound_deposits.are_filled.Given as goal

abbrev pub invariant-loop-row : goal.invariant-loop-row
invariant-loop-row l = ((ns : List spec.Number) → spec.IsSetOf ns l.numbers → list_all (spec.is_filled ns) (take l.row-index l.rows) ≡ true)
    × (l.left + sum_by spec.asked (take l.row-index l.rows) ≡ l.deposits)
