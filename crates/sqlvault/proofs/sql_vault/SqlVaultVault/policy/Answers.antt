use Rattle.std.proofs.Common.{ap}
use Rattle.sqlvault.specs.Opened.{Opened}
use Rattle.sqlvault.proofs.StopLemmas.{done_told}
use Rattle.sqlvault.proofs.CallLemmas.{looks_call}
use Rattle.sqlvault.proofs.sql_vault.SqlVaultVault.policy.Goals as goal

pub returns-clause-done : goal.returns-clause-done
returns-clause-done g c k h clean =
    done_told g.S.Store _ c.args.self.now.conn c.self.inside.conn c.told.new.self.conn
    c.policy-answer.new.conn k _ c.told.result _
    (ap (λ (o : Opened g.row.S.Denot). o.conn) c.self.view_is)
    c.told.ensures.conn c.told.ensures.answer (c.policy-answer.ensures.done k) h clean

pub returns-clause-looks : goal.returns-clause-looks
returns-clause-looks g c =
    looks_call g.S.Store c.policy-answer.new.conn c.policy-answer.result c.told.result
    c.self.view_is c.told.ensures.conn c.told.ensures.answer
    c.told.ensures.counted c.policy-answer.ensures.looks
    (λ db o m. g.met.S.Store.settled c.args.self.now.conn.store db o m)
