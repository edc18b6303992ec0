use Rattle.office.proofs.UniqueIds as laws
use Rattle.office.proofs.history_laws.unique_ids_are_unique.Goals as goal

pub returns : goal.returns
returns c = laws.unique_ids_are_unique
