use Rattle.office.proofs.Served as laws
use Rattle.office.proofs.history_laws.served_is_allowed.Goals as goal

pub returns : goal.returns
returns c = laws.served_is_allowed
