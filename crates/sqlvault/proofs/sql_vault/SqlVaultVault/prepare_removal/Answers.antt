use Rattle.std.proofs.Common.{refl}
use Rattle.sqlvault.proofs.CallLemmas.{looks_idle}
use Rattle.sqlvault.proofs.sql_vault.SqlVaultVault.prepare_removal.Goals as goal

pub returns-clause-looks : goal.returns-clause-looks
returns-clause-looks g c = looks_idle g.S.Store _ refl
    (λ db o m. g.met.S.Store.settled c.args.self.now.conn.store db o m)
