use Rattle.sqlvault.proofs.FrameLemmas.{asked, failed, passed}
use Rattle.sqlite.specs.Held.{state}
use Rattle.vault.specs.Records.{receipts_of, class_count}
use Rattle.mailsql.specs.Rows.{rows_in}
use Rattle.sqlvault.proofs.HoldsLemmas.{seen}
use Rattle.sqlvault.proofs.DepositLemmas.{count_seen, ok_known}
use Rattle.sqlvault.proofs.deposit.find_before.Goals as goal

pub returns-clause-answered : goal.returns-clause-answered
returns-clause-answered g c k clean h =
    let s0 = state g.S.Store c.args.conn.now in
    let d = c.args.maildrop.now in
    let class = c.args.class.now in
    let kept = seen s0 (state g.S.Store c.find_count.new.conn) k (c.in_ok-count.ensures.same clean h.tables) h in
    let n = class_count class (receipts_of d k.deposits) in
    ok_known c.number_of.result n (c.number_of.ensures n
    (count_seen (rows_in s0.now.trees) k c.as_bytes.result.now d c.as_bytes-2.result.now class c.in_ok-count.count kept c.as_bytes.ensures.value c.as_bytes-2.ensures.value
    (c.in_ok-count.ensures.ok clean h.tables)))

pub returns-clause-looks : goal.returns-clause-looks
returns-clause-looks g c =
    asked g.S.Store c.args.conn.now c.find_count.new.conn c.in_ok-count.ensures.same c.find_count.ensures.survives

pub returns-in_err-count-clause-looks : goal.returns-in_err-count-clause-looks
returns-in_err-count-clause-looks g c = rw (passed c.from_residual.ensures.1) (failed g.S.Store c.args.conn.now c.find_count.new.conn c.in_err-count.ensures.err
    c.find_count.ensures.survives)
