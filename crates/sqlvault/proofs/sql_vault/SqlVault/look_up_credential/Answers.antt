use Rattle.std.proofs.Common.{ap, Ok, Result}
use Rattle.std.specs.Prelude.{Option}
use Rattle.creds.specs.declared.credential.Credential.{Credential}
use Rattle.vault.specs.declared.fault.VaultFault.{VaultFault}
use Rattle.vault.specs.Changes.{Contents}
use Rattle.vault.specs.Records.{credential_in}
use Rattle.vault.specs.Calls.{IsAnswer}
use Rattle.sqlvault.specs.Opened.{Opened}
use Rattle.sqlvault.proofs.SeesLemmas.{sees_told}
use Rattle.sqlvault.proofs.BesideLemmas.{tells_told}
use Rattle.sqlvault.proofs.sql_vault.SqlVault.look_up_credential.Goals as goal

pub returns-clause-sees : goal.returns-clause-sees
returns-clause-sees g c =
    sees_told g.S.Store (λ (k : Contents) (a : Result (Option Credential) VaultFault). IsAnswer (Ok (credential_in c.args.clerk.now k.clerks)) a)
    c.args.self.now.conn c.self.inside.conn c.told.new.self.conn c.find_credential-answer.new.conn c.find_credential-answer.result c.told.result
    (ap (λ (o : Opened g.row.S.Denot). o.conn) c.self.view_is)
    c.told.ensures.conn c.told.ensures.answer c.find_credential-answer.ensures.sees

pub returns-clause-beside : goal.returns-clause-beside
returns-clause-beside g c =
    tells_told g.S.Store
    (λ (k : Contents) (a : Result (Option Credential) VaultFault).
    IsAnswer (Ok (credential_in c.args.clerk.now k.clerks)) a)
    c.args.self.now.conn c.self.inside.conn c.told.new.self.conn c.find_credential-answer.new.conn
    c.find_credential-answer.result c.told.result (ap (λ (o : Opened g.row.S.Denot). o.conn) c.self.view_is)
    c.told.ensures.conn c.told.ensures.answer c.find_credential-answer.ensures.beside
