use Rattle.std.proofs.Common.{◌≡◌, ◌+◌, drop}
use Rattle.policy.specs.Places.{single_before}
use Rattle.policy.proofs.sound.single_before.Given as goal

abbrev pub invariant-loop-i : goal.invariant-loop-i
invariant-loop-i l = single_before l.names ≡ l.i + single_before (drop l.i l.names)
