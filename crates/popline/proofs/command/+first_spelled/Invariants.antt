-- the rows that are left
use Rattle.std.proofs.Common.{length}
use Rattle.popline.proofs.command.+first_spelled.Given as goal

abbrev pub decreases-first_spelled : goal.decreases-first_spelled
decreases-first_spelled l = length l.rows.now
