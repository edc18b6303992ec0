-- The rows so far are marked, and the others are as they were.
use Rattle.std.proofs.Common.{◌≡◌, ◌++◌, take, drop, map}
use Rattle.recent.specs.Recalling.{changed_in}
use Rattle.recent.proofs.totals.mark_all.Given as goal

abbrev pub invariant-loop-row : goal.invariant-loop-row
invariant-loop-row l = l.rows ≡ map (changed_in l.maildrop) (take l.row-index l.initial.rows) ++ drop l.row-index l.initial.rows
