use Rattle.mailtext.proofs.StreamLemmas.{stuffed_from-kept}
use Rattle.mailtext.proofs.stuffer.Stuffer.new.Goals as goal

pub returns-clause-lines : goal.returns-clause-lines
returns-clause-lines c = stuffed_from-kept
