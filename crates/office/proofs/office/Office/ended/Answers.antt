use Rattle.std.proofs.Common.{rules}
use Rattle.office.proofs.office.Office.ended.Goals as goal

pub returns : goal.returns
returns g c = search rules
