use Rattle.std.proofs.Common.{ap, Some, subst}
use Rattle.std.specs.Prelude.{Option}
use Rattle.vault.specs.Stops.{IsOwn}
use Rattle.sqlvault.specs.Opened.{Opened}
use Rattle.sqlvault.specs.declared.work.Work.{Work}
use Rattle.sqlvault.specs.declared.work.Work.TheVariants as works
use Rattle.sqlvault.specs.UnderWay.{Prepares, under_way}
use Rattle.sqlvault.proofs.UnderWayLemmas.{prepares_told, told_under}
use Rattle.sqlvault.proofs.sql_vault.SqlVault.put_piece.Goals as goal

pub returns-clause-prepares : goal.returns-clause-prepares
returns-clause-prepares g c =
    subst (λ (u : Option Work). Prepares g.S.Store c.args.self.now.conn c.told.new.self.conn (Some (works.Deposit c.args.coming.now)) u (IsOwn c.told.result))
    (told_under c.put_piece-answer.result c.told.result (works.Deposit c.put_piece-answer.new.coming) c.told.ensures.answer)
    (prepares_told g.S.Store c.args.self.now.conn c.self.inside.conn c.told.new.self.conn
    c.put_piece-answer.new.conn (Some (works.Deposit c.args.coming.now)) (under_way c.put_piece-answer.result (works.Deposit c.put_piece-answer.new.coming))
    c.put_piece-answer.result c.told.result
    (ap (λ (o : Opened g.row.S.Denot). o.conn) c.self.view_is)
    c.told.ensures.conn c.told.ensures.answer c.put_piece-answer.ensures.prepares)

pub returns-clause-step : goal.returns-clause-step
returns-clause-step g c = rw c.told.ensures.answer c.put_piece-answer.ensures.step
