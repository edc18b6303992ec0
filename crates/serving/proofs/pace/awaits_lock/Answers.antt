use Rattle.std.proofs.Common.{sym, ◌∙◌}
use Rattle.serving.proofs.Looking.{nobody_waits}
use Rattle.serving.proofs.pace.awaits_lock.Goals as goal

pub returns-in-None : goal.returns-in-None
returns-in-None g c = λ T piece stands brought. nobody_waits T c.args.connection piece c.args.seconds (sym c.in-None.is ∙ brought)

pub returns-in-Some : goal.returns-in-Some
returns-in-Some g c = λ T piece stands brought. c.waits.ensures T piece stands (sym brought ∙ c.in-Some.is)
