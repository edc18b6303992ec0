use Rattle.office.proofs.Laws as laws
use Rattle.office.proofs.history_laws.one_holder.Goals as goal

pub returns : goal.returns
returns c = laws.one_holder
