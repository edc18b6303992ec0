use Rattle.std.proofs.Common.{length}
use Rattle.serving.specs.Wires.{counted}
use Rattle.serving.proofs.Noting.{tells_read}
use Rattle.serving.proofs.noted_wire.NotedWireWire.read.Goals as goal

pub returns-clause-told : goal.returns-clause-told
returns-clause-told g c = λ t h. tells_read _ _ _ c.args.port c.args.link (length c.args.buffer.now) c.read-io.result (counted c.read-io.result c.read-io.new.buffer) t c.note.ensures h
