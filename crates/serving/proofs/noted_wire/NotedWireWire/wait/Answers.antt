use Rattle.serving.specs.Calls.{Waited}
use Rattle.serving.proofs.Noting.{tells_on}
use Rattle.serving.proofs.noted_wire.NotedWireWire.wait.Goals as goal

pub returns-clause-told : goal.returns-clause-told
returns-clause-told g c = λ t h. tells_on _ _ _ (Waited c.args.millis) t c.note.ensures h h.1
