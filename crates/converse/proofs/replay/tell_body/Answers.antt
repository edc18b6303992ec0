use Rattle.std.proofs.Common.{codes}
use Rattle.converse.proofs.Telling.{told_octet}
use Rattle.converse.proofs.replay.tell_body.Goals as goal

pub loop-octet-preserved : goal.loop-octet-preserved
loop-octet-preserved g c =
    told_octet (codes "answer ") _ _ _ c.loop-octet.at_start c.args.body.now c.loop-octet.octet-index _ c.loop-octet-test.true c.loop-octet.invariant c.in_ok-tell_octet.ensures
