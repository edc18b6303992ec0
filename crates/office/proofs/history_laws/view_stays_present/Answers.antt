use Rattle.office.proofs.Snapshot as laws
use Rattle.office.proofs.history_laws.view_stays_present.Goals as goal

pub returns : goal.returns
returns c = laws.view_stays_present
