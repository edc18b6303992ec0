use Rattle.sqlvault.proofs.StoredLemmas.{kept_told}
use Rattle.sqlvault.proofs.sound_messages.is_kept.Goals as goal

pub returns : goal.returns
returns c = kept_told c.is_kept.result c.args.text.now c.is_kept.ensures
