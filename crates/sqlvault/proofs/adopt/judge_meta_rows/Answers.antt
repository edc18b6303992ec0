use Rattle.std.proofs.Common.{inl}
use Rattle.sqlite.specs.Held.{state}
use Rattle.mailsql.specs.Rows.{rows_in}
use Rattle.sqlvault.proofs.FrameLemmas.{passed}
use Rattle.sqlvault.proofs.adopt.judge_meta_rows.Goals as goal

pub returns-clause-judged : goal.returns-clause-judged
returns-clause-judged g c clean tables =
    c.in_ok-ours.ensures.judged (rows_in (state g.S.Store c.args.conn.now).now.trees) (c.in_ok-version.ensures.told clean (inl tables))

pub returns-in_err-ours-clause-judged : goal.returns-in_err-ours-clause-judged
returns-in_err-ours-clause-judged g c = rw (passed c.from_residual-in_err-ours.ensures.1)
    (λ clean tables. c.in_err-ours.ensures.judged (rows_in (state g.S.Store c.args.conn.now).now.trees)
    (c.in_ok-version.ensures.told clean (inl tables)))
