use Rattle.policy.specs.PolicyText.{is_top_key}
use Rattle.policy.proofs.Placed.{stray_in}
use Rattle.policy.proofs.read.stray_top_key.Goals as goal

pub returns : goal.returns
returns c = stray_in is_top_key c.args.table.now.entries c.other_than_top_keys.result c.other_than_top_keys.ensures
