use Rattle.sqlvault.proofs.FrameLemmas.{asked, failed, passed}
use Rattle.sqlvault.proofs.totals.names.Goals as goal

pub returns-in_err-rows-clause-names : goal.returns-in_err-rows-clause-names
returns-in_err-rows-clause-names g c = rw (passed c.from_residual.ensures.1) (λ k clean h. tt)

pub returns-in_err-rows-clause-looks : goal.returns-in_err-rows-clause-looks
returns-in_err-rows-clause-looks g c = rw (passed c.from_residual.ensures.1)
    (failed g.S.Store c.args.conn.now c.all_maildrops.new.conn c.in_err-rows.ensures.err c.all_maildrops.ensures.survives)

pub returns-in_err-names-clause-looks : goal.returns-in_err-names-clause-looks
returns-in_err-names-clause-looks g c = asked g.S.Store c.args.conn.now c.all_maildrops.new.conn c.in_ok-rows.ensures.same c.all_maildrops.ensures.survives

pub returns-in_err-in_order-clause-looks : goal.returns-in_err-in_order-clause-looks
returns-in_err-in_order-clause-looks g c = asked g.S.Store c.args.conn.now c.all_maildrops.new.conn c.in_ok-rows.ensures.same c.all_maildrops.ensures.survives

pub returns-clause-looks : goal.returns-clause-looks
returns-clause-looks g c =
    asked g.S.Store c.args.conn.now c.all_maildrops.new.conn c.in_ok-rows.ensures.same
    c.all_maildrops.ensures.survives
