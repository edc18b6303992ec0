use Rattle.office.proofs.Vanishing as laws
use Rattle.office.proofs.history_laws.none_comes_back.Goals as goal

pub returns : goal.returns
returns c = laws.none_comes_back
