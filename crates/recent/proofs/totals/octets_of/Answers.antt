use Rattle.std.proofs.Common.{arith}
use Rattle.std.proofs.lemmas.Grind.{common_steps}
use Rattle.recent.proofs.totals.octets_of.Goals as goal

pub loop-head-preserved : goal.loop-head-preserved
loop-head-preserved c = grind (arith, common_steps)
