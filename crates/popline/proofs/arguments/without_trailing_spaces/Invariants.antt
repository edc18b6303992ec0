use Rattle.std.proofs.Common.{◌≡◌, length}
use Rattle.popline.specs.Commands.{trimmed}
use Rattle.popline.proofs.arguments.without_trailing_spaces.Given as goal

abbrev pub invariant-loop-rest : goal.invariant-loop-rest
invariant-loop-rest l = trimmed l.rest ≡ trimmed l.fn.line

abbrev pub decreases-loop-rest : goal.decreases-loop-rest
decreases-loop-rest l = length l.rest
