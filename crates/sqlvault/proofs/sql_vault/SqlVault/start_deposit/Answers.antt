use Rattle.std.proofs.Common.{ap, None, subst}
use Rattle.std.specs.Prelude.{Option}
use Rattle.vault.specs.Stops.{IsOwn}
use Rattle.sqlvault.specs.Opened.{Opened}
use Rattle.sqlvault.specs.declared.work.Work.{Work}
use Rattle.sqlvault.specs.UnderWay.{Prepares, begun}
use Rattle.sqlvault.proofs.UnderWayLemmas.{prepares_told}
use Rattle.sqlvault.proofs.ComingLemmas.{told_begun}
use Rattle.sqlvault.proofs.sql_vault.SqlVault.start_deposit.Goals as goal

pub returns-clause-prepares : goal.returns-clause-prepares
returns-clause-prepares g c =
    subst (λ (u : Option Work). Prepares g.S.Store c.args.self.now.conn c.told.new.self.conn None u (IsOwn c.told.result))
    (told_begun c.start-answer.result c.told.result c.told.ensures.answer)
    (prepares_told g.S.Store c.args.self.now.conn c.self.inside.conn c.told.new.self.conn
    c.start-answer.new.conn None (begun c.start-answer.result)
    c.start-answer.result c.told.result
    (ap (λ (o : Opened g.row.S.Denot). o.conn) c.self.view_is)
    c.told.ensures.conn c.told.ensures.answer c.start-answer.ensures.prepares)

pub returns-clause-step : goal.returns-clause-step
returns-clause-step g c = rw c.told.ensures.answer c.start-answer.ensures.step
