use Rattle.std.proofs.Common.{length}
use Rattle.serving.specs.Wires.{counted}
use Rattle.serving.proofs.Noting.{tells_write}
use Rattle.serving.proofs.noted_wire.NotedWireWire.write.Goals as goal

pub returns-clause-told : goal.returns-clause-told
returns-clause-told g c = λ t h. tells_write _ _ _ c.args.port c.args.link (length c.args.octets.now) c.write-io.result (counted c.write-io.result c.args.octets.now) t c.note.ensures h
