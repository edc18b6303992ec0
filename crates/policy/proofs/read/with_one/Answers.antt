use Rattle.std.proofs.Common.{rules}
use Rattle.policy.proofs.read.with_one.Goals as goal

pub returns-in-Read : goal.returns-in-Read
returns-in-Read c = search rules
