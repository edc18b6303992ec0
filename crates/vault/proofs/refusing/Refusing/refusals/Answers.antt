-- As many as were counted.
use Rattle.std.proofs.Common.{rules}
use Rattle.vault.proofs.refusing.Refusing.refusals.Goals as goal

pub returns : goal.returns
returns g c = search rules
