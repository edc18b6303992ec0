use Rattle.office.proofs.Running as laws
use Rattle.office.proofs.history_laws.failures_are_counted.Goals as goal

pub returns : goal.returns
returns c = laws.failures_are_counted
