use Rattle.std.proofs.lemmas.Grind.{common_steps}
use Rattle.std.proofs.Common.{◌<◌, length, arith}
use Rattle.sqlvault.proofs.TotalLemmas.{names_more}
use Rattle.sqlvault.proofs.totals.read_names.Goals as goal

pub returns : goal.returns
returns c = grind (arith, common_steps)

pub loop-row-preserved : goal.loop-row-preserved
loop-row-preserved c = λ all.
    let lt : c.loop-row.row-index < length c.args.rows.now = omega (arith, c.loop-row-test.true) in
    names_more c.args.rows.now c.loop-row.names.items c.push_name.new.names.items c.loop-row.row-index c.row-item.result lt c.row-item.is all (c.loop-row.invariant all) c.in_ok-push_name.ensures
