use Rattle.std.proofs.Common.{arith}
use Rattle.policy.specs.declared.rule.Rule.{Rule}
use Rattle.review.specs.Names.{clerk_of}
use Rattle.review.proofs.Naming.{part_more}
use Rattle.review.proofs.names.add_rules_clerks.Goals as goal

pub loop-rule-preserved : goal.loop-rule-preserved
loop-rule-preserved c =
    part_more (λ (r : Rule). clerk_of r.clerk) c.args.names.now.keys c.loop-rule.names.keys c.add_clerk.new.names.keys c.args.rules.now c.loop-rule.rule-index c.rule-item.result
    (omega arith) c.rule-item.is c.loop-rule.invariant c.in_ok-add_clerk.ensures
