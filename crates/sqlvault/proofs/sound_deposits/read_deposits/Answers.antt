use Rattle.std.proofs.lemmas.Grind.{common_steps}
use Rattle.std.proofs.Common.{◌<◌, length, arith}
use Rattle.sqlvault.proofs.HasNumberLemmas.{read_more}
use Rattle.sqlvault.proofs.sound_deposits.read_deposits.Goals as goal

pub loop-row-preserved : goal.loop-row-preserved
loop-row-preserved c =
    let lt : c.loop-row.row-index < length c.args.rows.now = omega (arith, c.loop-row-test.true) in
    read_more c.args.rows.now c.loop-row.row-index c.row-item.result c.in-Some.number c.loop-row.numbers c.insert.new.self lt c.row-item.is
    c.in-Some.ensures c.loop-row.invariant c.in_ok-insert.ensures.updates.0

pub returns : goal.returns
returns c = grind (arith, common_steps)
