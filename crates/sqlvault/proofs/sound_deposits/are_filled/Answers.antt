use Rattle.std.proofs.Common.{◌<◌, length, arith}
use Rattle.sqlvault.proofs.HasNumberLemmas.{filled_more, asked_more}
use Rattle.sqlvault.proofs.sound_deposits.are_filled.Goals as goal

pub loop-row-preserved : goal.loop-row-preserved
loop-row-preserved c =
    let lt : c.loop-row.row-index < length c.args.rows.now = omega (arith, c.loop-row-test.true) in (
      λ ns set. filled_more ns c.args.rows.now c.loop-row.row-index c.row-item.result c.in-Some.count lt c.row-item.is (c.in-Some.ensures.value ns set) (c.loop-row.invariant.0 ns set),
      asked_more c.args.rows.now c.loop-row.row-index c.row-item.result c.loop-row.left c.in-Some.count c.args.deposits lt c.row-item.is c.in-Some.ensures.asked (omega arith) c.loop-row.invariant.1,
    )
