use Rattle.std.proofs.Common.{◌≡◌, take}
use Rattle.review.specs.Steps.{of_maildrop}
use Rattle.review.proofs.question.of_maildrop.Given as goal

abbrev pub invariant-loop-rule : goal.invariant-loop-rule
invariant-loop-rule l = l.some.items ≡ of_maildrop (take l.rule-index l.rules) l.maildrop
