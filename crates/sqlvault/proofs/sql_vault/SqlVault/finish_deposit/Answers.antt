use Rattle.std.proofs.Common.{ap}
use Rattle.vault.specs.Calls.{IsDeposited}
use Rattle.sqlvault.specs.Opened.{Opened}
use Rattle.sqlvault.specs.declared.work.Work.TheVariants as works
use Rattle.sqlvault.proofs.UnderWayLemmas.{finishes_told}
use Rattle.sqlvault.proofs.sql_vault.SqlVault.finish_deposit.Goals as goal

pub returns-clause-finishes : goal.returns-clause-finishes
returns-clause-finishes g c =
    finishes_told g.S.Store c.args.self.now.conn c.self.inside.conn c.written.new.self.conn
    c.finish-answer.new.conn (works.Deposit c.args.coming)
    (λ k Held answered. IsDeposited Held k c.args.coming.maildrop c.args.coming.class c.args.coming.id c.args.text.now answered)
    c.written.result _
    (ap (λ (o : Opened g.row.S.Denot). o.conn) c.self.view_is)
    c.written.ensures.conn c.written.ensures.answer c.finish-answer.ensures
