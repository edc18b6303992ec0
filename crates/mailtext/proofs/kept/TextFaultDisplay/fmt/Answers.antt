-- The fault's name.
use Rattle.std.proofs.Common.{rules}
use Rattle.mailtext.proofs.kept.TextFaultDisplay.fmt.Goals as goal

pub returns-in-TooLarge-clause-writes : goal.returns-in-TooLarge-clause-writes
returns-in-TooLarge-clause-writes c = search rules
