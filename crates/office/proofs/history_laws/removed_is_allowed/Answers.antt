use Rattle.office.proofs.Vanishing as laws
use Rattle.office.proofs.history_laws.removed_is_allowed.Goals as goal

pub returns : goal.returns
returns c = laws.removed_is_allowed
