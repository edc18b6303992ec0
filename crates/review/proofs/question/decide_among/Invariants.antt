use Rattle.std.proofs.Common.{◌≡◌, drop}
use Rattle.review.specs.Steps.{decide_among}
use Rattle.review.proofs.question.decide_among.Given as goal

abbrev pub invariant-loop-rule : goal.invariant-loop-rule
invariant-loop-rule l = decide_among l.rules l.asked ≡ decide_among (drop l.rule-index l.rules) l.asked
