use Rattle.popline.proofs.ReadLemmas.{reads_what_is_spelled}
use Rattle.popline.proofs.laws.reads_what_is_spelled.Goals as goal

pub returns : goal.returns
returns c = reads_what_is_spelled
