use Rattle.std.proofs.Common.{◌≡◌, ◌++◌, take, drop, map}
use Rattle.session.specs.Rows.{heads_of, unmarked_row}
use Rattle.session.proofs.row.unmark_all.Given as goal

abbrev pub invariant-loop-row : goal.invariant-loop-row
invariant-loop-row l = l.rows ≡ map unmarked_row (heads_of (take l.row-index l.initial.rows)) ++ drop l.row-index l.initial.rows
