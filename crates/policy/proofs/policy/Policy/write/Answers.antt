-- The text stands after what was there.
use Rattle.std.proofs.Common.{rules}
use Rattle.policy.proofs.policy.Policy.write.Goals as goal

pub returns-clause-ok : goal.returns-clause-ok
returns-clause-ok c = search rules
