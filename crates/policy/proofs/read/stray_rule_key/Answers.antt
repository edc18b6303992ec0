use Rattle.policy.specs.PolicyText.{is_rule_key}
use Rattle.policy.proofs.Placed.{stray_in}
use Rattle.policy.proofs.read.stray_rule_key.Goals as goal

pub returns : goal.returns
returns c = stray_in is_rule_key c.args.table.now.entries c.other_than_rule_keys.result c.other_than_rule_keys.ensures
