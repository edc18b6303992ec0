-- The fault's text.
use Rattle.std.proofs.Common.{rules}
use Rattle.vault.proofs.fault.VaultFault.text.Goals as goal

pub returns-in-Full : goal.returns-in-Full
returns-in-Full c = search rules
