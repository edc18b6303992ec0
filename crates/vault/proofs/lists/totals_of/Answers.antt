-- The totals of the names in order.
use Rattle.std.proofs.Common.{rules}
use Rattle.vault.proofs.lists.totals_of.Goals as goal

pub returns-clause-answer : goal.returns-clause-answer
returns-clause-answer c = search rules
