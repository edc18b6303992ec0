-- The rules themselves.
use Rattle.std.proofs.Common.{rules}
use Rattle.policy.proofs.policy.Policy.rules.Goals as goal

pub returns-clause-value : goal.returns-clause-value
returns-clause-value c = search rules
