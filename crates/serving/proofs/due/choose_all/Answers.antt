-- One place more is chosen among.
use Rattle.std.proofs.Common.{arith}
use Rattle.serving.specs.Due.{chosen}
use Rattle.serving.proofs.Settling.{replaced_at}
use Rattle.serving.proofs.due.choose_all.Goals as goal

pub loop-place-preserved : goal.loop-place-preserved
loop-place-preserved c =
    replaced_at (chosen c.args.turns c.args.most c.args.waiting.now) c.args.places.now c.loop-place.places c.loop-place.place-index
    _ c.choose.new.self (omega arith) c.loop-place.invariant c.choose.ensures
