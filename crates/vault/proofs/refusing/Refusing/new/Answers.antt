-- Nothing was refused yet.
use Rattle.std.proofs.Common.{rules}
use Rattle.vault.proofs.refusing.Refusing.new.Goals as goal

pub returns : goal.returns
returns g c = search rules
