use Rattle.std.proofs.Common.{arith}
use Rattle.std.proofs.lemmas.Grind.{common_steps}
use Rattle.popline.proofs.cutter.Cutter.line.Goals as goal

pub returns-then-self-eq255 : goal.returns-then-self-eq255
returns-then-self-eq255 c = grind (arith, common_steps)
