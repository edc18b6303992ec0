-- Nothing is kept.
use Rattle.std.proofs.Common.{rules}
use Rattle.vault.proofs.plain.PlainVault.new.Goals as goal

pub returns : goal.returns
returns c = search rules
