use Rattle.policy.proofs.FirstFaults as laws
use Rattle.policy.proofs.laws.numbers_the_first_fault.Goals as goal

pub returns : goal.returns
returns c = laws.numbers_the_first_fault
