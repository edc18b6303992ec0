use Rattle.std.proofs.Common.{◌≡◌, ◌-◌, ◌^◌, take, min}
use Rattle.popline.specs.Commands.{value_of}
use Rattle.popline.proofs.arguments.capped_value.Given as goal

abbrev pub invariant-loop-b : goal.invariant-loop-b
invariant-loop-b l = l.value ≡ min (value_of (take l.b-index l.digits)) (2 ^ 64 - 1)
