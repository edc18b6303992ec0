use Rattle.std.proofs.Common.{arith, codes}
use Rattle.policy.specs.WrittenText.{rule_text}
use Rattle.policy.proofs.Written.{joined-first, joined-later}
use Rattle.policy.proofs.write.rules_text.Goals as goal
use Rattle.policy.proofs.write.rules_text.Goals.{then-i-gt0+in_ok-extend_from_slice, else-i-gt0}

pub loop-i-preserved : goal.loop-i-preserved
loop-i-preserved c =
    let written = c.in_ok-put_rule.ensures in
    elim c.if-i-gt0.branch [
      | then-i-gt0+in_ok-extend_from_slice w ↦
          let apart = w.in_ok-extend_from_slice.ensures.items in
          let later = joined-later (codes "\n") rule_text c.args.rules.now c.loop-i.i c.index-rules-i.result (omega arith) (omega arith) in cc
      | else-i-gt0 w ↦
          let first = joined-first (codes "\n") rule_text c.args.rules.now c.loop-i.i c.index-rules-i.result (omega arith) (omega arith) in cc
    ]
