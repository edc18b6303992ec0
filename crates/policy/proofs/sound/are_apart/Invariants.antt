use Rattle.std.proofs.Common.{◌≡◌, drop}
use Rattle.std.specs.Str.{bytes_eq}
use Rattle.policy.specs.Policy.{are_distinct}
use Rattle.policy.proofs.sound.are_apart.Given as goal

abbrev pub invariant-loop-i : goal.invariant-loop-i
invariant-loop-i l = are_distinct bytes_eq l.names ≡ are_distinct bytes_eq (drop l.i l.names)
