use Rattle.std.proofs.Common.{◌≡◌, drop}
use Rattle.policy.specs.Policy.{are_distinct, same_name}
use Rattle.policy.proofs.sound.have_own_names.Given as goal

abbrev pub invariant-loop-i : goal.invariant-loop-i
invariant-loop-i l = are_distinct same_name l.rules ≡ are_distinct same_name (drop l.i l.rules)
