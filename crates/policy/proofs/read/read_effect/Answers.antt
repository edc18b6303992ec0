-- Any other text is no effect.
use Rattle.std.proofs.Common.{rules}
use Rattle.policy.proofs.read.read_effect.Goals as goal

pub returns-in_default : goal.returns-in_default
returns-in_default c = search rules
