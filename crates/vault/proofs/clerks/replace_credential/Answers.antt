-- One clerk more is done.
use Rattle.std.proofs.Common.{arith}
use Rattle.vault.proofs.ClerkLemmas.{replaced_at}
use Rattle.vault.specs.Changes.{with_credential}
use Rattle.vault.proofs.clerks.replace_credential.Goals as goal

pub loop-clerk-preserved : goal.loop-clerk-preserved
loop-clerk-preserved c =
    replaced_at (with_credential c.args.name.now c.args.credential.now) c.args.clerks.now c.loop-clerk.clerks c.loop-clerk.clerk-index
    c.clerk-item.result c.replace_in.new.clerk (omega arith) c.loop-clerk.invariant c.replace_in.ensures
