use Rattle.std.proofs.Common.{ap}
use Rattle.vault.specs.Calls.{AreRemoved}
use Rattle.sqlvault.specs.Opened.{Opened}
use Rattle.sqlvault.specs.declared.work.Work.TheVariants as works
use Rattle.sqlvault.proofs.UnderWayLemmas.{finishes_told}
use Rattle.sqlvault.proofs.sql_vault.SqlVault.finish_removal.Goals as goal

pub returns-clause-finishes : goal.returns-clause-finishes
returns-clause-finishes g c =
    finishes_told g.S.Store c.args.self.now.conn c.self.inside.conn c.written.new.self.conn
    c.finish_removal-answer.new.conn (works.Removal c.args.removing.now)
    (λ k Held answered. AreRemoved Held k c.args.removing.now.maildrop c.args.removing.now.keys answered)
    c.written.result _
    (ap (λ (o : Opened g.row.S.Denot). o.conn) c.self.view_is)
    c.written.ensures.conn c.written.ensures.answer c.finish_removal-answer.ensures
