use Rattle.std.proofs.Common.{arith, codes}
use Rattle.policy.specs.WrittenText.{group_text}
use Rattle.policy.proofs.Written.{joined-first, joined-later}
use Rattle.policy.proofs.write.groups_text.Goals as goal
use Rattle.policy.proofs.write.groups_text.Goals.{then-i-gt0+in_ok-extend_from_slice, else-i-gt0}

pub loop-i-preserved : goal.loop-i-preserved
loop-i-preserved c =
    let written = c.in_ok-put_group.ensures in
    elim c.if-i-gt0.branch [
      | then-i-gt0+in_ok-extend_from_slice w ↦
          let apart = w.in_ok-extend_from_slice.ensures.items in
          let later = joined-later (codes "\n") group_text c.args.groups.now c.loop-i.i c.index-groups-i.result (omega arith) (omega arith) in cc
      | else-i-gt0 w ↦
          let first = joined-first (codes "\n") group_text c.args.groups.now c.loop-i.i c.index-groups-i.result (omega arith) (omega arith) in cc
    ]
