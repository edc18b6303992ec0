-- The list, or want of memory.
use Rattle.std.proofs.Common.{rules}
use Rattle.vault.proofs.clerks.list_clerks.Goals as goal

pub returns-clause-answer : goal.returns-clause-answer
returns-clause-answer c = search rules
