use Rattle.std.proofs.Common.{◌≡◌, ◌++◌}
use Rattle.review.specs.Page.{rule_row}
use Rattle.review.specs.Places.{texts_of}
use Rattle.review.proofs.page.put_rule_rows.Given as goal

abbrev pub invariant-loop-place : goal.invariant-loop-place
invariant-loop-place l = l.out.items ≡ l.initial.out.items ++ texts_of rule_row l.rules l.place
