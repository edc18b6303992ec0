use Rattle.sqlvault.specs.Deposits.{PutsReceipt, PutsMessage, PutsDeposit, message_of}
use Rattle.sqlvault.proofs.FrameLemmas.{writes_failed, writes_then, passed}
use Rattle.sqlvault.proofs.deposit.put_deposit.Goals as goal

pub returns : goal.returns
returns g c =
    let r = c.args.receipt.now in
    let text = c.args.text.now in
    writes_then (λ _. PutsReceipt r) (PutsMessage (message_of r text)) (PutsDeposit r text) tt
    c.put_message.result c.in_ok-put_receipt.ensures c.put_message.ensures (λ from mid to p m. (mid, p, m))

pub returns-in_err-put_receipt : goal.returns-in_err-put_receipt
returns-in_err-put_receipt g c = rw (passed c.from_residual.ensures.1) (writes_failed c.in_err-put_receipt.ensures)
