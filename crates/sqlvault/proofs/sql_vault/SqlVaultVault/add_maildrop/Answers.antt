use Rattle.sqlite.specs.Held.{state}
use Rattle.sqlvault.proofs.CallLemmas.{acts_done, commits_call}
use Rattle.sqlvault.proofs.StopLemmas.{left_done}
use Rattle.sqlvault.proofs.sql_vault.SqlVaultVault.add_maildrop.Goals as goal

pub returns-clause-done : goal.returns-clause-done
returns-clause-done g c =
    acts_done g.S.Store c.written.new.self c.add_maildrop-answer.new.conn _ c.written.result _
    c.self.view_is c.written.ensures.conn c.written.ensures.answer c.add_maildrop-answer.ensures

pub returns-clause-commits : goal.returns-clause-commits
returns-clause-commits g c =
    commits_call g.S.Store c.add_maildrop-answer.new.conn _ c.written.result _ c.self.view_is
    c.written.ensures.conn c.written.ensures.answer c.written.ensures.counted c.add_maildrop-answer.ensures
    (λ db o m. g.met.S.Store.settled c.args.self.now.conn.store db o m)
    (λ k left. left_done _ (state g.S.Store c.written.new.self.conn) k _ left)
