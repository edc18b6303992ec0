use Rattle.office.proofs.OwnRecords as laws
use Rattle.office.proofs.history_laws.own_records_agree.Goals as goal

pub returns : goal.returns
returns c = laws.own_records_agree
