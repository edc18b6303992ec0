use Rattle.office.proofs.HiddenDeposit as laws
use Rattle.office.proofs.history_laws.hidden_deposit_leaves_no_trace.Goals as goal

pub returns : goal.returns
returns c = laws.hidden_deposit_leaves_no_trace
