use Rattle.sqlvault.proofs.GroupLemmas.{group_at}
use Rattle.sqlvault.proofs.RuleLemmas.{never}
use Rattle.sqlvault.proofs.groups.groups_of.Goals as goal

pub returns-in_default-clause-all : goal.returns-in_default-clause-all
returns-in_default-clause-all c all =
    let sound = group_at c.args.members.now c.args.rows.now c.loop-row.row-index c.row-item.result c.loop-row-test.true c.row-item.is all in
    never _ c.in_ok-group.field-0 _ c.in_default.is (c.in_ok-group.ensures.all sound)
