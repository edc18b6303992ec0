use Rattle.std.proofs.Common.{ap, Vec, Global, Result}
use Rattle.vault.specs.declared.answer.Head.{Head}
use Rattle.vault.specs.declared.fault.VaultFault.{VaultFault}
use Rattle.vault.specs.Changes.{Contents}
use Rattle.vault.specs.Calls.{IsAnswer, heads_result, seen_as}
use Rattle.sqlvault.specs.Opened.{Opened}
use Rattle.sqlvault.proofs.SeesLemmas.{sees_told}
use Rattle.sqlvault.proofs.BesideLemmas.{tells_told}
use Rattle.sqlvault.proofs.sql_vault.SqlVault.look_up_heads.Goals as goal

pub returns-clause-sees : goal.returns-clause-sees
returns-clause-sees g c =
    sees_told g.S.Store (λ (k : Contents) (a : Result (Vec Head Global) VaultFault). IsAnswer (heads_result c.args.maildrop.now k) (seen_as a (λ (v : Vec Head Global). v.items)))
    c.args.self.now.conn c.self.inside.conn c.told.new.self.conn c.heads-answer.new.conn c.heads-answer.result c.told.result (ap (λ (o : Opened g.row.S.Denot). o.conn) c.self.view_is)
    c.told.ensures.conn c.told.ensures.answer c.heads-answer.ensures.sees

pub returns-clause-beside : goal.returns-clause-beside
returns-clause-beside g c =
    tells_told g.S.Store
    (λ (k : Contents) (a : Result (Vec Head Global) VaultFault).
    IsAnswer (heads_result c.args.maildrop.now k) (seen_as a (λ (v : Vec Head Global). v.items)))
    c.args.self.now.conn c.self.inside.conn c.told.new.self.conn c.heads-answer.new.conn
    c.heads-answer.result c.told.result (ap (λ (o : Opened g.row.S.Denot). o.conn) c.self.view_is)
    c.told.ensures.conn c.told.ensures.answer c.heads-answer.ensures.beside
