-- Of another name the clerk stays.
use Rattle.std.proofs.Common.{rules}
use Rattle.vault.proofs.clerks.replace_in.Goals as goal

pub returns-then-eq : goal.returns-then-eq
returns-then-eq c = search rules
