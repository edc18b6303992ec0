-- How many there are.
use Rattle.std.proofs.Common.{rules}
use Rattle.policy.proofs.policy.Policy.len.Goals as goal

pub returns-clause-value : goal.returns-clause-value
returns-clause-value c = search rules
