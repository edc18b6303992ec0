use Rattle.std.proofs.Common.{◌≡◌, length, arith, ap, ◌∙◌, List, take_all}
use Rattle.vault.proofs.ListLemmas.{length-map}
use Rattle.mailsql.specs.declared.rows.Deposit.{Deposit}
use Rattle.sqlvault.specs.Keeps.{deposit_row}
use Rattle.sqlvault.proofs.ReceiptLemmas.{receipt_more}
use Rattle.sqlvault.proofs.receipts.read_receipts.Goals as goal

pub loop-row-preserved : goal.loop-row-preserved
loop-row-preserved c = λ rs are formed.
    receipt_more rs c.args.rows.now c.loop-row.row-index c.row-item.result c.in_ok-receipt.receipt
    c.loop-row.receipts.items c.extend_from_slice.new.self.items c.loop-row-test.true c.row-item.is are formed
    c.in_ok-receipt.ensures (c.loop-row.invariant rs are formed) c.in_ok-extend_from_slice.ensures.items

pub returns : goal.returns
returns c = λ rs are formed.
    let long : length c.args.rows.now ≡ length rs = ap (λ (l : List Deposit). length l) are ∙ length-map deposit_row rs in
    c.loop-row.invariant rs are formed ∙ take_all c.loop-row.row-index rs (omega (arith, long, c.loop-row-test.false))
