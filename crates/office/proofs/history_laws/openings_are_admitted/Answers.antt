use Rattle.office.proofs.Lending.{start_admitted}
use Rattle.office.proofs.history_laws.openings_are_admitted.Goals as goal

pub returns : goal.returns
returns c = start_admitted
