use Rattle.std.proofs.Common.{List, ℕ, arith, subst, take_all}
use Rattle.std.proofs.lemmas.Grind.{common_steps}
use Rattle.std.specs.Io.KnownBytes.{Appends}
use Rattle.converse.specs.Escapes.{escaped}
use Rattle.converse.proofs.replay.write_escaped.Goals as goal

pub loop-octet-preserved : goal.loop-octet-preserved
loop-octet-preserved g c = grind (arith, common_steps)

pub returns : goal.returns
returns g c =
    subst (λ (octets : List ℕ). Appends (g.W.Write.contents c.args.out.now) (g.W.Write.contents c.loop-octet.out) (escaped octets))
    (take_all c.loop-octet.octet-index c.args.octets.now c.loop-octet-test.false) c.loop-octet.invariant
