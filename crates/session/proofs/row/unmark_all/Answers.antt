use Rattle.session.proofs.RowLemmas.{unmarks_more}
use Rattle.session.proofs.row.unmark_all.Goals as goal

pub loop-row-preserved : goal.loop-row-preserved
loop-row-preserved c =
    unmarks_more c.args.rows.now c.loop-row.rows c.loop-row.row-index c.row-item.result c.loop-row-test.true c.loop-row.invariant
