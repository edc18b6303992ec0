use Rattle.std.proofs.Common.{rules}
use Rattle.office.proofs.bodies.known_line.Goals as goal

pub returns : goal.returns
returns c = search rules
