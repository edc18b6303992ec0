use Rattle.office.proofs.RepliesForm as laws
use Rattle.office.proofs.history_laws.replies_have_their_form.Goals as goal

pub returns : goal.returns
returns c = laws.replies_have_their_form
