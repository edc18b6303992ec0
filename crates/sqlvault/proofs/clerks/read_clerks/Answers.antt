use Rattle.std.proofs.Common.{◌<◌, ◌≤◌, List, length, take_all, arith, ap, subst, ◌∙◌}
use Rattle.vault.proofs.ListLemmas.{length-map}
use Rattle.mailsql.specs.declared.rows.Clerk.{Clerk}
use Rattle.sqlvault.specs.Keeps.{clerk_row}
use Rattle.sqlvault.proofs.clerks.KindLemmas.{some_clerk, clerks_more}
use Rattle.sqlvault.proofs.clerks.read_clerks.Goals as goal

pub returns : goal.returns
returns c = λ cs same all.
    let le : length c.args.rows.now ≤ c.loop-row.row-index = omega (arith, c.loop-row-test.false) in
    let le2 : length cs ≤ c.loop-row.row-index =
    subst (λ n. n ≤ c.loop-row.row-index) (ap (λ (l : List Clerk). length l) same ∙ length-map clerk_row cs) le in
    c.loop-row.invariant cs same all ∙ take_all c.loop-row.row-index cs le2

pub loop-row-preserved : goal.loop-row-preserved
loop-row-preserved c = λ cs same all.
    let lt : c.loop-row.row-index < length c.args.rows.now = omega (arith, c.loop-row-test.true) in
    clerks_more c.args.rows.now cs c.loop-row.clerks.items c.push_clerk.new.clerks.items c.loop-row.row-index
    c.row-item.result some_clerk lt c.row-item.is same all (c.loop-row.invariant cs same all) c.in_ok-push_clerk.ensures
