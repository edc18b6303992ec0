-- The first line alone.
use Rattle.std.proofs.Common.{rules}
use Rattle.popline.proofs.lines.begin_top.Goals as goal

pub returns-clause-ok : goal.returns-clause-ok
returns-clause-ok c = search rules
