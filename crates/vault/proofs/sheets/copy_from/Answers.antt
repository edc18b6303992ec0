-- The octets from that place on.
use Rattle.std.proofs.Common.{arith}
use Rattle.std.proofs.lemmas.Grind.{common_steps}
use Rattle.vault.proofs.sheets.copy_from.Goals as goal

pub returns-clause-page : goal.returns-clause-page
returns-clause-page c = grind (arith, common_steps)
