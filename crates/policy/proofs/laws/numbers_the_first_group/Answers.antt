use Rattle.policy.proofs.FirstGroups as laws
use Rattle.policy.proofs.laws.numbers_the_first_group.Goals as goal

pub returns : goal.returns
returns c = laws.numbers_the_first_group
