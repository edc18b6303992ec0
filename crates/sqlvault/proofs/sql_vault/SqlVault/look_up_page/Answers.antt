use Rattle.std.proofs.Common.{ap, ℕ, Result}
use Rattle.vault.specs.declared.fault.VaultFault.{VaultFault}
use Rattle.vault.specs.Changes.{Contents}
use Rattle.vault.specs.Calls.{IsPageRead, text_under}
use Rattle.sqlvault.specs.Opened.{Opened}
use Rattle.sqlvault.proofs.SeesLemmas.{sees_told}
use Rattle.sqlvault.proofs.BesideLemmas.{tells_told}
use Rattle.sqlvault.proofs.sql_vault.SqlVault.look_up_page.Goals as goal

pub returns-clause-sees : goal.returns-clause-sees
returns-clause-sees g c =
    sees_told g.S.Store (λ (k : Contents) (a : Result ℕ VaultFault). IsPageRead (text_under c.args.key k.messages) c.args.from c.page-answer.new.buffer a)
    c.args.self.now.conn c.self.inside.conn c.told.new.self.conn c.page-answer.new.conn c.page-answer.result c.told.result (ap (λ (o : Opened g.row.S.Denot). o.conn) c.self.view_is)
    c.told.ensures.conn c.told.ensures.answer c.page-answer.ensures.sees

pub returns-clause-beside : goal.returns-clause-beside
returns-clause-beside g c =
    tells_told g.S.Store
    (λ (k : Contents) (a : Result ℕ VaultFault).
    IsPageRead (text_under c.args.key k.messages) c.args.from c.page-answer.new.buffer a)
    c.args.self.now.conn c.self.inside.conn c.told.new.self.conn c.page-answer.new.conn
    c.page-answer.result c.told.result (ap (λ (o : Opened g.row.S.Denot). o.conn) c.self.view_is)
    c.told.ensures.conn c.told.ensures.answer c.page-answer.ensures.beside
