use Rattle.std.proofs.Common.{◌≡◌, take}
use Rattle.review.specs.Steps.{of_member}
use Rattle.review.proofs.question.of_member.Given as goal

abbrev pub invariant-loop-rule : goal.invariant-loop-rule
invariant-loop-rule l = l.some.items ≡ of_member (take l.rule-index l.rules) l.member
