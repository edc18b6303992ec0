use Rattle.office.proofs.Sights as laws
use Rattle.office.proofs.history_laws.hidden_mail_leaves_no_trace.Goals as goal

pub returns : goal.returns
returns c = laws.hidden_mail_leaves_no_trace
