use Rattle.office.proofs.Vanishing as laws
use Rattle.office.proofs.history_laws.nothing_else_vanishes.Goals as goal

pub returns : goal.returns
returns c = laws.nothing_else_vanishes
