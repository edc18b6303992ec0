use Rattle.std.proofs.Common.{◌≡◌, take}
use Rattle.review.specs.Questions.{columns}
use Rattle.review.proofs.question.columns.Given as goal

abbrev pub invariant-loop-class : goal.invariant-loop-class
invariant-loop-class l = l.asked.items ≡ columns (take l.class-index l.classes)
