use Rattle.std.proofs.Common.{rules}
use Rattle.office.proofs.administration.row_of.Goals as goal

pub returns : goal.returns
returns c = search rules
