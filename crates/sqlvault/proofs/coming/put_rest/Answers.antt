use Rattle.mailsql.specs.Changes.{AddsRest}
use Rattle.sqlvault.specs.Keeps.{row_key}
use Rattle.sqlvault.specs.Arrivals.{PutsRest}
use Rattle.sqlvault.specs.Deposits.{PutsReceipt}
use Rattle.sqlvault.proofs.FrameLemmas.{writes_failed, writes_then, passed}
use Rattle.sqlvault.proofs.coming.put_rest.Goals as goal

pub returns : goal.returns
returns g c =
    writes_then (λ _. AddsRest c.args.from (row_key c.args.key) c.args.text.now) (PutsReceipt c.args.receipt.now) (PutsRest c.args.from c.args.key c.args.text.now c.args.receipt.now) tt
    c.put_receipt.result c.in_ok-add_rest.ensures c.put_receipt.ensures (λ from mid to p m. (mid, p, m))

pub returns-in_err-add_rest : goal.returns-in_err-add_rest
returns-in_err-add_rest g c = rw (passed c.from_residual.ensures.1) (writes_failed c.in_err-add_rest.ensures)
