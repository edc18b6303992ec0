-- What was written of the lines is what a client reads.
use Rattle.std.proofs.Common.{rules}
use Rattle.mailtext.proofs.stuffing.unstuff.Goals as goal

pub returns : goal.returns
returns c = search rules
