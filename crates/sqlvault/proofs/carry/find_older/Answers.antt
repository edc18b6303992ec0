use Rattle.std.proofs.Common.{inr}
use Rattle.sqlite.specs.Held.{state}
use Rattle.mailsql.specs.Rows.{rows_in}
use Rattle.sqlvault.proofs.FrameLemmas.{passed}
use Rattle.sqlvault.proofs.carry.find_older.Goals as goal

pub returns-clause-judged : goal.returns-clause-judged
returns-clause-judged g c clean tables =
    c.in_ok-older.ensures.judged (rows_in (state g.S.Store c.args.conn.now).now.trees) (c.in_ok-version.ensures.told clean (inr tables))

pub returns-in_err-older-clause-judged : goal.returns-in_err-older-clause-judged
returns-in_err-older-clause-judged g c = rw (passed c.from_residual-in_err-older.ensures.1)
    (λ clean tables. c.in_err-older.ensures.judged (rows_in (state g.S.Store c.args.conn.now).now.trees)
    (c.in_ok-version.ensures.told clean (inr tables)))
