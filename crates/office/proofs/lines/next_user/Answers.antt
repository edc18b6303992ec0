use Rattle.std.proofs.Common.{rules}
use Rattle.office.proofs.lines.next_user.Goals as goal

pub returns-in-Ok-Capa : goal.returns-in-Ok-Capa
returns-in-Ok-Capa c = search rules

pub returns-in_default : goal.returns-in_default
returns-in_default c = search rules
