use Rattle.office.proofs.SentExactly as laws
use Rattle.office.proofs.history_laws.taken_is_sent.Goals as goal

pub returns : goal.returns
returns c = laws.taken_is_sent
