use Rattle.std.proofs.Common.{rules}
use Rattle.popline.proofs.lines.begin_message.Goals as goal

pub returns-clause-ok : goal.returns-clause-ok
returns-clause-ok c = search rules
