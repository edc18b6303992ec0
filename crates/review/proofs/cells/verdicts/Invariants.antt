use Rattle.std.proofs.Common.{◌≡◌, map, take}
use Rattle.review.specs.CellSteps.{verdict_among}
use Rattle.review.proofs.cells.verdicts.Given as goal

abbrev pub invariant-loop-column : goal.invariant-loop-column
invariant-loop-column l = l.all.items ≡ map (verdict_among l.olds l.news) (take l.column-index l.asked)
