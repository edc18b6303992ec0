use Rattle.std.proofs.Common.{Ok, refl}
use Rattle.vault.specs.Changes.{Contents}
use Rattle.vault.specs.Records.{credential_in}
use Rattle.sqlvault.proofs.CallLemmas.{looks_over}
use Rattle.sqlvault.proofs.SeesLemmas.{sees_looks, sees_done}
use Rattle.sqlvault.proofs.sql_vault.SqlVaultVault.credential.Goals as goal

pub returns-clause-done : goal.returns-clause-done
returns-clause-done g c k h clean =
    sees_done (λ (b : Contents). Ok (credential_in c.args.clerk.now b.clerks))
    c.look_up_credential.result c.look_up_credential.ensures.sees k clean h

pub returns-clause-looks : goal.returns-clause-looks
returns-clause-looks g c =
    looks_over g.S.Store c.look_up_credential.result refl refl c.look_up_credential.ensures.counted
    (sees_looks c.look_up_credential.ensures.sees)
    (λ db o m. g.met.S.Store.settled c.args.self.now.conn.store db o m)
