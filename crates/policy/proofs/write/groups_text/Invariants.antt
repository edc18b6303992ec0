use Rattle.std.proofs.Common.{◌≡◌, codes, map, take}
use Rattle.policy.specs.WrittenText.{joined, group_text}
use Rattle.policy.proofs.write.groups_text.Given as goal

abbrev pub invariant-loop-i : goal.invariant-loop-i
invariant-loop-i l = l.text.items ≡ joined (codes "\n") (map group_text (take l.i l.groups))
