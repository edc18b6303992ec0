use Rattle.mailtext.proofs.ReadingLemmas.{unstuffed-stuffed}
use Rattle.mailtext.proofs.stuffing.stuffing_is_undone.Goals as goal

pub returns : goal.returns
returns c = unstuffed-stuffed
