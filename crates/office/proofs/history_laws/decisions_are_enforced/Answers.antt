use Rattle.office.proofs.Reviewed as laws
use Rattle.office.proofs.history_laws.decisions_are_enforced.Goals as goal

pub returns : goal.returns
returns c = laws.decisions_are_enforced
