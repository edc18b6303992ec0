-- The newcomers so far are settled, and the others are as they were.
use Rattle.std.proofs.Common.{◌≡◌, ◌++◌, take, drop, map}
use Rattle.serving.specs.Newcomers.{settled_if}
use Rattle.serving.proofs.newcomers.settle_all.Given as goal

abbrev pub invariant-loop-entry : goal.invariant-loop-entry
invariant-loop-entry l = l.newcomers ≡ map (settled_if l.connection l.lies_unread l.now) (take l.entry-index l.initial.newcomers) ++ drop l.entry-index l.initial.newcomers
