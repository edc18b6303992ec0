use Rattle.std.proofs.Common.{ap}
use Rattle.sqlvault.specs.Opened.{Opened}
use Rattle.sqlvault.proofs.UnderWayLemmas.{gives_up_told}
use Rattle.sqlvault.proofs.sql_vault.SqlVault.give_up.Goals as goal

pub returns-clause-gives_up : goal.returns-clause-gives_up
returns-clause-gives_up g c =
    gives_up_told g.S.Store c.args.self.now.conn c.self.inside.conn c.told.new.self.conn
    c.give_up-answer.new.conn c.give_up-answer.result c.told.result
    (ap (λ (o : Opened g.row.S.Denot). o.conn) c.self.view_is)
    c.told.ensures.conn c.told.ensures.answer c.give_up-answer.ensures.gives_up

pub returns-clause-answer : goal.returns-clause-answer
returns-clause-answer g c = rw c.told.ensures.answer c.give_up-answer.ensures.answer
