-- One newcomer more is done.
use Rattle.std.proofs.Common.{arith}
use Rattle.serving.specs.Newcomers.{settled_if}
use Rattle.serving.proofs.Settling.{replaced_at}
use Rattle.serving.proofs.newcomers.settle_all.Goals as goal

pub loop-entry-preserved : goal.loop-entry-preserved
loop-entry-preserved c =
    replaced_at (settled_if c.args.connection c.args.lies_unread c.args.now) c.args.newcomers.now c.loop-entry.newcomers c.loop-entry.entry-index
    _ c.settle_if.new.it (omega arith) c.loop-entry.invariant c.settle_if.ensures
