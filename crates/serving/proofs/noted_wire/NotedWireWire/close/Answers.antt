use Rattle.serving.proofs.Noting.{tells_close}
use Rattle.serving.proofs.noted_wire.NotedWireWire.close.Goals as goal

pub returns-clause-told : goal.returns-clause-told
returns-clause-told g c = λ t h. tells_close _ _ _ c.args.port c.args.link t c.note.ensures h
