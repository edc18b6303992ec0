-- The variant's name.
use Rattle.std.proofs.Common.{rules}
use Rattle.policy.proofs.fault.PolicyFault.name.Goals as goal

pub returns-in-BadName : goal.returns-in-BadName
returns-in-BadName c = search rules
