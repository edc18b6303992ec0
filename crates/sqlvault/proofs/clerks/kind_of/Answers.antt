use Rattle.std.proofs.Common.{rules}
use Rattle.sqlvault.proofs.clerks.kind_of.Goals as goal

pub returns-in-Pass : goal.returns-in-Pass
returns-in-Pass c = search rules
