use Rattle.popline.proofs.FaultLemmas.{names_the_fault}
use Rattle.popline.proofs.laws.names_the_fault.Goals as goal

pub returns : goal.returns
returns c = names_the_fault
