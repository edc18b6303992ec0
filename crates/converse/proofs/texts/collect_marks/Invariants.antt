use Rattle.std.proofs.Common.{map, take}
use Rattle.converse.specs.Texts.{IsSetOf, mark_of}
use Rattle.converse.proofs.texts.collect_marks.Given as goal

-- the marks are those of the receipts that came
abbrev pub invariant-loop-receipt : goal.invariant-loop-receipt
invariant-loop-receipt l = IsSetOf (map mark_of (take l.receipt-index l.receipts)) l.marks
