-- A name fits itself.
use Rattle.std.proofs.Common.{rules}
use Rattle.policy.proofs.read.read_pattern.Goals as goal

pub returns : goal.returns
returns c = search rules
