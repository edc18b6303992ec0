use Rattle.popline.proofs.FormLemmas.{form_of_replies}
use Rattle.popline.proofs.laws.form_of_replies.Goals as goal

pub returns : goal.returns
returns c = form_of_replies
