use Rattle.policy.specs.PolicyText.{is_group_key}
use Rattle.policy.proofs.Placed.{stray_in}
use Rattle.policy.proofs.read_groups.stray_group_key.Goals as goal

pub returns : goal.returns
returns c = stray_in is_group_key c.args.table.now.entries c.other_than_group_keys.result c.other_than_group_keys.ensures
