use Rattle.std.proofs.Common.{ap}
use Rattle.sqlvault.specs.Opened.{Opened}
use Rattle.sqlvault.proofs.FrameLemmas.{looks_told}
use Rattle.sqlvault.proofs.sql_vault.SqlVault.checkpoint.Goals as goal

pub returns-clause-looks : goal.returns-clause-looks
returns-clause-looks g c =
    looks_told g.S.Store c.args.self.now.conn c.self.inside.conn c.told.new.self.conn
    c.checkpoint-answer.new.conn c.checkpoint-answer.result c.told.result
    (ap (λ (o : Opened g.row.S.Denot). o.conn) c.self.view_is)
    c.told.ensures.conn c.told.ensures.answer c.checkpoint-answer.ensures.looks

pub returns-clause-answer : goal.returns-clause-answer
returns-clause-answer g c = rw c.told.ensures.answer c.checkpoint-answer.ensures.answer
