use Rattle.std.proofs.Common.{◌≡◌, take}
use Rattle.review.specs.Cells.{classes_by}
use Rattle.review.proofs.cells.classes_by.Given as goal

abbrev pub invariant-loop-verdict : goal.invariant-loop-verdict
invariant-loop-verdict l = l.classes.items ≡ classes_by l.remove l.allowed (take l.verdict-index l.verdicts)
