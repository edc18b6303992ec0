use Rattle.office.proofs.DepositIds as laws
use Rattle.office.proofs.history_laws.deposit_ids_act_once.Goals as goal

pub returns : goal.returns
returns c = laws.deposit_ids_act_once
