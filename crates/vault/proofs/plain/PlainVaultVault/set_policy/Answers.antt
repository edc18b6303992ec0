-- The policy alone changes.
use Rattle.std.proofs.Common.{rules}
use Rattle.vault.proofs.plain.PlainVaultVault.set_policy.Goals as goal

pub returns-clause-done : goal.returns-clause-done
returns-clause-done c = search rules
