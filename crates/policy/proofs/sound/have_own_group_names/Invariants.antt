use Rattle.std.proofs.Common.{◌≡◌, drop}
use Rattle.policy.specs.Policy.{are_distinct, same_group}
use Rattle.policy.proofs.sound.have_own_group_names.Given as goal

abbrev pub invariant-loop-i : goal.invariant-loop-i
invariant-loop-i l = are_distinct same_group l.groups ≡ are_distinct same_group (drop l.i l.groups)
