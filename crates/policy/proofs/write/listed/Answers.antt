use Rattle.std.proofs.Common.{arith, codes}
use Rattle.policy.specs.WrittenText.{quoted}
use Rattle.policy.proofs.Written.{joined-first, joined-later}
use Rattle.policy.proofs.write.listed.Goals as goal
use Rattle.policy.proofs.write.listed.Goals.{then-i-gt0+in_ok-extend_from_slice, else-i-gt0}

pub loop-i-preserved : goal.loop-i-preserved
loop-i-preserved c =
    let written = c.in_ok-put_word.ensures in
    elim c.if-i-gt0.branch [
      | then-i-gt0+in_ok-extend_from_slice w ↦
          let apart = w.in_ok-extend_from_slice.ensures.items in
          let later = joined-later (codes ", ") quoted c.args.names.now c.loop-i.i c.index-names-i.result (omega arith) (omega arith) in cc
      | else-i-gt0 w ↦
          let first = joined-first (codes ", ") quoted c.args.names.now c.loop-i.i c.index-names-i.result (omega arith) (omega arith) in cc
    ]
