use Rattle.std.proofs.Common.{◌≡◌, ◌++◌}
use Rattle.review.specs.Table.{spaces}
use Rattle.review.proofs.table.put_spaces.Given as goal

abbrev pub invariant-loop-done : goal.invariant-loop-done
invariant-loop-done l = l.out.items ≡ l.initial.out.items ++ spaces l.done
