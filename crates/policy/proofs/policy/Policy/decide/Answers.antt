-- The first rule that matches.
use Rattle.std.proofs.Common.{rules}
use Rattle.policy.proofs.policy.Policy.decide.Goals as goal

pub returns : goal.returns
returns c = search rules
