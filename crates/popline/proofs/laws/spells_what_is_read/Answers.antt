use Rattle.popline.proofs.SpellLemmas.{spells_what_is_read}
use Rattle.popline.proofs.laws.spells_what_is_read.Goals as goal

pub returns : goal.returns
returns c = spells_what_is_read
