use Rattle.std.proofs.Common.{◌≡◌, map, take}
use Rattle.review.specs.Steps.{row_among}
use Rattle.review.proofs.table.rows_among.Given as goal

abbrev pub invariant-loop-member : goal.invariant-loop-member
invariant-loop-member l = l.rows.items ≡ map (row_among l.rules l.classes) (take l.member-index l.members)
