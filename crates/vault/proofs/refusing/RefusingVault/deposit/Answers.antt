-- The refused call leaves the vault inside as it was; any other leaves what that one leaves.
use Rattle.std.proofs.Common.{rules}
use Rattle.vault.proofs.refusing.RefusingVault.deposit.Goals as goal

pub returns-clause-done : goal.returns-clause-done
returns-clause-done g c = search rules
