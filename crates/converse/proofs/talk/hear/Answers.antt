use Rattle.std.proofs.Common.{refl, eq-eqb}
use Rattle.converse.proofs.SoFar.{heard}
use Rattle.converse.proofs.talk.hear.Goals as goal

pub returns-clause-heard : goal.returns-clause-heard
returns-clause-heard g c =
    let s = c.step.ensures in
    heard g.V.Vault.is_clean c.had_memory.result c.had_memory.ensures.is c.requires (eq-eqb c.args.c c.args.c refl)
    (record { stands = s.stands; outcome = s.outcome; cause = s.cause; counted = s.counted })
