use Rattle.std.proofs.Common.{◌≡◌, codes, map, take}
use Rattle.policy.specs.WrittenText.{joined, quoted}
use Rattle.policy.proofs.write.listed.Given as goal

abbrev pub invariant-loop-i : goal.invariant-loop-i
invariant-loop-i l = l.text.items ≡ joined (codes ", ") (map quoted (take l.i l.names))
