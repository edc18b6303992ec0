use Rattle.sqlite.specs.Held.{state}
use Rattle.sqlvault.proofs.CallLemmas.{acts_done, commits_call}
use Rattle.sqlvault.proofs.StopLemmas.{left_deposited}
use Rattle.sqlvault.proofs.sql_vault.SqlVaultVault.deposit.Goals as goal

pub returns-clause-done : goal.returns-clause-done
returns-clause-done g c =
    acts_done g.S.Store c.written.new.self c.deposit-answer.new.conn _ c.written.result _
    c.self.view_is c.written.ensures.conn c.written.ensures.answer c.deposit-answer.ensures

pub returns-clause-commits : goal.returns-clause-commits
returns-clause-commits g c =
    commits_call g.S.Store c.deposit-answer.new.conn _ c.written.result _ c.self.view_is
    c.written.ensures.conn c.written.ensures.answer c.written.ensures.counted c.deposit-answer.ensures
    (λ db o m. g.met.S.Store.settled c.args.self.now.conn.store db o m)
    (λ k left. left_deposited (state g.S.Store c.written.new.self.conn) k left c.args.maildrop.now
    c.args.class.now c.args.id.now c.args.text.now)
