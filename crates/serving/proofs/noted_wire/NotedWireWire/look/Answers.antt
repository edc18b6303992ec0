use Rattle.serving.specs.Wires.{counted}
use Rattle.serving.specs.Calls.{Looked}
use Rattle.serving.proofs.Noting.{tells_on}
use Rattle.serving.proofs.noted_wire.NotedWireWire.look.Goals as goal

pub returns-clause-told : goal.returns-clause-told
returns-clause-told g c = λ t h. tells_on _ _ _ (Looked c.args.port c.args.link c.look-io.result (counted c.look-io.result c.look-io.new.buffer)) t c.note.ensures h h.1
