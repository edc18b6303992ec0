use Rattle.policy.specs.Index.{ListsFrom}
use Rattle.policy.proofs.index.index_of.Given as goal

abbrev pub invariant-loop-i : goal.invariant-loop-i
invariant-loop-i l = ListsFrom l.i l.rules l.first l.next.items
