use Rattle.std.proofs.Common.{◌⊎◌, to_z, w64, arith}
use Rattle.std.proofs.lemmas.Int.{to_z_pos}
use Rattle.mailsql.specs.declared.rows.Count.{Count}
use Rattle.mailsql.specs.declared.rows.Deposit.{Deposit}
use Rattle.mailsql.specs.Changes.{AddsDeposit, ClearsCount, SetsCount}
use Rattle.sqlvault.specs.Deposits.{PutsReceipt}
use Rattle.sqlvault.proofs.DepositLemmas.{receipt_put}
use Rattle.sqlvault.proofs.FrameLemmas.{wrote, written, halted_in, writes_then, passed}
use Rattle.sqlvault.proofs.deposit.put_receipt.Goals as goal

pub returns-in_err-set_count : goal.returns-in_err-set_count
returns-in_err-set_count g c = rw (passed c.from_residual.ensures.1)
    (let row : Count = record { maildrop = c.as_bytes.result.now; class = c.as_bytes-2.result.now; k = to_z w64 c.args.receipt.now.k } in
    halted_in g.S.Store c.args.conn.now c.set_count.new.conn (λ _. PutsReceipt c.args.receipt.now)
    (λ from to. ClearsCount row.maildrop row.class from to ⊎ SetsCount row from to)
    c.in_err-set_count.field-0.0
    c.in_err-set_count.ensures.err c.set_count.ensures.survives)

pub returns : goal.returns
returns g c =
    let receipt = c.args.receipt.now in
    let row : Count = record { maildrop = c.as_bytes.result.now; class = c.as_bytes-2.result.now; k = to_z w64 receipt.k } in
    let put : Deposit = record { maildrop = c.as_bytes-3.result.now; id = c.as_bytes-4.result.now; class = c.as_bytes-5.result.now; k = to_z w64 receipt.k; digest = c.as_slice.result.now } in
    let First : Unit {0} → _ = λ _. SetsCount row in
    writes_then First (AddsDeposit put) (PutsReceipt receipt) tt c.add_deposit.result
    (wrote g.S.Store c.args.conn.now c.set_count.new.conn First
    (λ from to. ClearsCount row.maildrop row.class from to ⊎ SetsCount row from to) tt
    c.in_ok-set_count.ensures.ok c.set_count.ensures.survives)
    (written g.S.Store c.set_count.new.conn c.add_deposit.new.conn (AddsDeposit put)
    c.add_deposit.result c.add_deposit.ensures.ok c.add_deposit.ensures.err
    c.add_deposit.ensures.survives)
    (λ from mid to set add.
    receipt_put receipt row.maildrop row.class put.maildrop put.id put.class put.digest
    (to_z w64 receipt.k) from mid to c.as_bytes.ensures.value c.as_bytes-2.ensures.value c.as_bytes-3.ensures.value c.as_bytes-4.ensures.value
    c.as_bytes-5.ensures.value c.as_slice.ensures (to_z_pos w64 receipt.k (omega arith)) set add)
