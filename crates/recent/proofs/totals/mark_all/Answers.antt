-- One row more is done.
use Rattle.std.proofs.Common.{arith}
use Rattle.recent.specs.Recalling.{changed_in}
use Rattle.vault.proofs.ClerkLemmas.{replaced_at}
use Rattle.recent.proofs.totals.mark_all.Goals as goal

pub loop-row-preserved : goal.loop-row-preserved
loop-row-preserved c =
    replaced_at (changed_in c.args.maildrop.now) c.args.rows.now c.loop-row.rows c.loop-row.row-index
    c.row-item.result c.mark.new.row (omega arith) c.loop-row.invariant c.mark.ensures
