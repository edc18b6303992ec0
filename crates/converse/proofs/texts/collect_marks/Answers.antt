use Rattle.std.proofs.Common.{List, map, subst, take_all}
use Rattle.vault.specs.declared.record.Receipt.{Receipt}
use Rattle.converse.specs.Texts.{IsSetOf, mark_of}
use Rattle.converse.proofs.Sifting.{marks_more}
use Rattle.converse.proofs.texts.collect_marks.Goals as goal

pub loop-receipt-preserved : goal.loop-receipt-preserved
loop-receipt-preserved c =
    marks_more c.args.receipts.now c.loop-receipt.receipt-index c.receipt-item.result c.loop-receipt.marks c.insert.new.self
    c.loop-receipt-test.true c.receipt-item.is c.loop-receipt.invariant c.in_ok-insert.ensures.updates.0

pub returns : goal.returns
returns c =
    subst (λ (l : List Receipt). IsSetOf (map mark_of l) c.loop-receipt.marks)
    (take_all c.loop-receipt.receipt-index c.args.receipts.now c.loop-receipt-test.false) c.loop-receipt.invariant
