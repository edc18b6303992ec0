use Rattle.std.proofs.Common.{ap, None, subst}
use Rattle.std.specs.Prelude.{Option}
use Rattle.vault.specs.Stops.{IsOwn}
use Rattle.sqlvault.specs.Opened.{Opened}
use Rattle.sqlvault.specs.declared.work.Work.{Work}
use Rattle.sqlvault.specs.declared.work.Work.TheVariants as works
use Rattle.sqlvault.specs.Removals.{removal_of}
use Rattle.sqlvault.specs.UnderWay.{Prepares, under_way}
use Rattle.sqlvault.proofs.UnderWayLemmas.{prepares_told, told_under}
use Rattle.sqlvault.proofs.sql_vault.SqlVault.begin_removal.Goals as goal

pub returns-clause-prepares : goal.returns-clause-prepares
returns-clause-prepares g c = λ d keys.
    subst (λ (u : Option Work). Prepares g.S.Store c.args.self.now.conn c.told.new.self.conn None u (IsOwn c.told.result))
    (told_under c.begin_removal-answer.result c.told.result (works.Removal (removal_of d keys)) c.told.ensures.answer)
    (prepares_told g.S.Store c.args.self.now.conn c.self.inside.conn c.told.new.self.conn
    c.begin_removal-answer.new.conn None (under_way c.begin_removal-answer.result (works.Removal (removal_of d keys)))
    c.begin_removal-answer.result c.told.result
    (ap (λ (o : Opened g.row.S.Denot). o.conn) c.self.view_is)
    c.told.ensures.conn c.told.ensures.answer (c.begin_removal-answer.ensures.prepares d keys))

pub returns-clause-answer : goal.returns-clause-answer
returns-clause-answer g c = rw c.told.ensures.answer c.begin_removal-answer.ensures.answer
