-- The policy in force.
use Rattle.std.proofs.Common.{rules}
use Rattle.vault.proofs.plain.PlainVaultVault.policy.Goals as goal

pub returns-clause-done : goal.returns-clause-done
returns-clause-done c = search rules
