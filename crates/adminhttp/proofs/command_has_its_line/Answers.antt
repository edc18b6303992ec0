use Rattle.adminhttp.proofs.RequestLineLemmas.{command_has_its_line}
use Rattle.adminhttp.proofs.command_has_its_line.Goals as goal

pub returns : goal.returns
returns c = command_has_its_line
