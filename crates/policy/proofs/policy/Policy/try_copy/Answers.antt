-- The same rules.
use Rattle.std.proofs.Common.{rules}
use Rattle.policy.proofs.policy.Policy.try_copy.Goals as goal

pub returns : goal.returns
returns c = search rules
