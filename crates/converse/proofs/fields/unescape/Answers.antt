use Rattle.std.proofs.Common.{arith}
use Rattle.std.proofs.lemmas.Grind.{common_steps}
use Rattle.converse.proofs.Escaping.{behind_more}
use Rattle.converse.proofs.fields.unescape.Goals as goal

pub loop-rest-preserved : goal.loop-rest-preserved
loop-rest-preserved c =
    let read = c.in_ok-push.ensures in
    let next = c.in-Some.ensures in
    record {
      short = grind (arith, common_steps, next.shorter, read.len, c.loop-rest.invariant.short);
      is = behind_more _ _ _ _ _ _ c.loop-rest.invariant.is next.is read.items;
    }
