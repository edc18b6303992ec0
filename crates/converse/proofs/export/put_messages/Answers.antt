use Rattle.converse.proofs.Exporting.{takes_kept, takes_whole, on_err}
use Rattle.converse.proofs.Stopping.{on_ok}
use Rattle.converse.proofs.export.put_messages.Goals as goal

pub returns-in-Ok-clause-whole : goal.returns-in-Ok-clause-whole
returns-in-Ok-clause-whole g c = on_ok c.settle.result (λ d h k all. takes_kept _ _ _ _ (c.in-Ok.ensures.whole d h k all) c.settle.ensures.kept)

pub returns-in-Ok-clause-part : goal.returns-in-Ok-clause-part
returns-in-Ok-clause-part g c = on_err c.settle.result (λ d h k all. takes_whole _ _ _ (takes_kept _ _ _ _ (c.in-Ok.ensures.whole d h k all) c.settle.ensures.kept))
