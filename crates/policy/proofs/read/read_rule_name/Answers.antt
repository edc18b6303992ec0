-- A name but the default's.
use Rattle.std.proofs.Common.{rules}
use Rattle.policy.proofs.read.read_rule_name.Goals as goal

pub returns : goal.returns
returns c = search rules
