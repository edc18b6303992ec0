use Rattle.std.proofs.lemmas.Grind.{common_steps}
use Rattle.std.proofs.Common.{◌∙◌, arith}
use Rattle.sqlvault.proofs.HeadLemmas.{row_at, next_head}
use Rattle.sqlvault.proofs.mail.read_heads.Goals as goal

pub returns-in-None-clause-memory : goal.returns-in-None-clause-memory
returns-in-None-clause-memory c ms is classes keys =
    let r = row_at ms c.args.rows.now c.loop-row.row-index c.row-item.result is classes keys c.loop-row-test.true c.row-item.is in
    let read = c.in-None.ensures r.0 r.1.row_is r.1.class r.1.key in
    cc

pub loop-row-preserved : goal.loop-row-preserved
loop-row-preserved c ms is classes keys =
    let r = row_at ms c.args.rows.now c.loop-row.row-index c.row-item.result is classes keys c.loop-row-test.true c.row-item.is in
    let read = c.in-Some.ensures r.0 r.1.row_is r.1.class r.1.key in
    c.in_ok-push-in-Some.ensures.items ∙ next_head ms c.loop-row.row-index c.row-item.result r.0 c.loop-row.heads.items c.in-Some.head r.1 (c.loop-row.invariant ms is classes keys) read

pub returns-clause-items : goal.returns-clause-items
returns-clause-items c = grind (arith, common_steps)
