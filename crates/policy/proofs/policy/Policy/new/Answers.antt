-- No rule is there.
use Rattle.std.proofs.Common.{rules}
use Rattle.policy.proofs.policy.Policy.new.Goals as goal

pub returns : goal.returns
returns c = search rules
