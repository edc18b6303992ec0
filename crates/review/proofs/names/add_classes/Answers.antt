use Rattle.std.proofs.Common.{arith}
use Rattle.policy.specs.declared.rule.Rule.{Rule}
use Rattle.review.specs.Names.{name_in}
use Rattle.review.proofs.Naming.{part_more}
use Rattle.review.proofs.names.add_classes.Goals as goal

pub loop-rule-preserved : goal.loop-rule-preserved
loop-rule-preserved c =
    part_more (λ (r : Rule). name_in r.class) c.args.names.now.keys c.loop-rule.names.keys c.add_pattern.new.names.keys c.args.rules.now c.loop-rule.rule-index c.rule-item.result
    (omega arith) c.rule-item.is c.loop-rule.invariant c.in_ok-add_pattern.ensures
