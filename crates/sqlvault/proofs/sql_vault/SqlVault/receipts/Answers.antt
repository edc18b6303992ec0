use Rattle.std.proofs.Common.{ap, Vec, Global}
use Rattle.vault.specs.declared.record.Receipt.{Receipt}
use Rattle.vault.specs.Calls.{seen_as}
use Rattle.sqlvault.specs.Receipts.{AreReceipts}
use Rattle.sqlvault.specs.Opened.{Opened}
use Rattle.sqlvault.proofs.FrameLemmas.{looks_told}
use Rattle.sqlvault.proofs.StopLemmas.{done_by}
use Rattle.sqlvault.proofs.sql_vault.SqlVault.receipts.Goals as goal

pub returns-clause-done : goal.returns-clause-done
returns-clause-done g c k h clean =
    done_by g.S.Store (λ Held a. AreReceipts Held k (seen_as a (λ (v : Vec Receipt Global). v.items)))
    c.args.self.now.conn c.self.inside.conn c.told.new.self.conn c.receipts-answer.new.conn k
    c.told.result _ (ap (λ (o : Opened g.row.S.Denot). o.conn) c.self.view_is)
    c.told.ensures.conn c.told.ensures.answer (c.receipts-answer.ensures.done k) h clean

pub returns-clause-looks : goal.returns-clause-looks
returns-clause-looks g c =
    looks_told g.S.Store c.args.self.now.conn c.self.inside.conn c.told.new.self.conn
    c.receipts-answer.new.conn c.receipts-answer.result c.told.result
    (ap (λ (o : Opened g.row.S.Denot). o.conn) c.self.view_is)
    c.told.ensures.conn c.told.ensures.answer c.receipts-answer.ensures.looks
