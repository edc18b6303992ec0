-- A short log stays; a long one is copied, which changes nothing.
use Rattle.std.proofs.Common.{Ok, Err, refl}
use Rattle.sqlvault.proofs.FrameLemmas.{passed}
use Rattle.sqlvault.proofs.CallLemmas.{looks_over, looks_idle}
use Rattle.sqlvault.proofs.sql_vault.SqlVaultVault.maintain.Goals as goal

pub returns-then-self-lt-LONG_LOG-clause-looks : goal.returns-then-self-lt-LONG_LOG-clause-looks
returns-then-self-lt-LONG_LOG-clause-looks g c = looks_idle g.S.Store _ refl (λ db o m. g.met.S.Store.settled c.args.self.now.conn.store db o m)

pub returns-clause-looks : goal.returns-clause-looks
returns-clause-looks g c =
    looks_over g.S.Store (Ok tt) c.self.view_is c.self-2.view_is c.in_ok-checkpoint.ensures.counted
    c.in_ok-checkpoint.ensures.looks (λ db o m. g.met.S.Store.settled c.args.self.now.conn.store db o m)

pub returns-in_err-checkpoint-clause-looks : goal.returns-in_err-checkpoint-clause-looks
returns-in_err-checkpoint-clause-looks g c = rw (passed c.from_residual.ensures.1)
    (looks_over g.S.Store (Err c.in_err-checkpoint.field-0.0) c.self.view_is refl c.in_err-checkpoint.ensures.counted
    c.in_err-checkpoint.ensures.looks
    (λ db o m. g.met.S.Store.settled c.args.self.now.conn.store db o m))
