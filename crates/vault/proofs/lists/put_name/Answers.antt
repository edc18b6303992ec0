-- A name that is there is no new one.
use Rattle.std.proofs.Common.{rules}
use Rattle.vault.proofs.lists.put_name.Goals as goal

pub returns-then-has_name-clause-answer : goal.returns-then-has_name-clause-answer
returns-then-has_name-clause-answer c = search rules
