use Rattle.office.proofs.Greetings as laws
use Rattle.office.proofs.history_laws.greetings_differ.Goals as goal

pub returns : goal.returns
returns c = laws.greetings_differ
