use Rattle.std.proofs.Common.{◌≡◌, codes, map, take}
use Rattle.policy.specs.WrittenText.{joined, rule_text}
use Rattle.policy.proofs.write.rules_text.Given as goal

abbrev pub invariant-loop-i : goal.invariant-loop-i
invariant-loop-i l = l.text.items ≡ joined (codes "\n") (map rule_text (take l.i l.rules))
