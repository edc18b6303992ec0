use Rattle.std.proofs.Common.{arith}
use Rattle.std.proofs.lemmas.Grind.{common_steps}
use Rattle.policy.proofs.fault.PolicyFaultDisplay.fmt.Goals as goal

pub returns-in-None-Some-clause-writes : goal.returns-in-None-Some-clause-writes
returns-in-None-Some-clause-writes c = grind (arith, common_steps)

pub returns-in-Some-default-clause-writes : goal.returns-in-Some-default-clause-writes
returns-in-Some-default-clause-writes c = grind (arith, common_steps)
