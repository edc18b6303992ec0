use Rattle.std.proofs.Common.{◌<◌, ◌≤◌, length, map, arith, ◌∙◌}
use Rattle.sqlvault.specs.Clerks.{row_name}
use Rattle.sqlvault.proofs.TotalLemmas.{names_more, mapped_all}
use Rattle.sqlvault.proofs.clerks.NameLemmas.{named_at}
use Rattle.sqlvault.proofs.clerks.row_names.Goals as goal

pub returns : goal.returns
returns c = λ all.
    let le : length c.args.rows.now ≤ c.loop-row.row-index = omega (arith, c.loop-row-test.false) in
    c.loop-row.invariant all ∙ mapped_all row_name c.args.rows.now c.loop-row.row-index le

pub loop-row-preserved : goal.loop-row-preserved
loop-row-preserved c = λ all.
    let i = c.loop-row.row-index in
    let lt : i < length c.args.rows.now = omega (arith, c.loop-row-test.true) in
    let at = named_at c.args.rows.now i c.row-item.result lt c.row-item.is in
    names_more (map row_name c.args.rows.now) c.loop-row.names.items c.push_name.new.names.items i
    c.row-item.result.name at.0 at.1 all (c.loop-row.invariant all) c.in_ok-push_name.ensures
