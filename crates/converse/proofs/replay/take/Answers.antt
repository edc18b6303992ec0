use Rattle.std.proofs.Common.{ap, refl}
use Rattle.office.specs.Events.{Took}
use Rattle.office.specs.Seen.{outcome_seen, followed_by}
use Rattle.office.specs.Stands.{vault_of}
use Rattle.converse.specs.Played.{taken_text}
use Rattle.converse.proofs.Playing.{by_owed, caused_one, owed_whole}
use Rattle.converse.proofs.replay.take.Goals as goal

pub returns-clause-taken : goal.returns-clause-taken
returns-clause-taken g c =
    let n = c.args.number in
    let e = Took n c.args.count in
    let lent = c.owed.result.now in λ T st clean. record {
      printed = taken_text n lent c.args.count;
      trace = followed_by T e c.step-outcome.result;
      appends = c.in_ok-tell_taken.ensures;
      stands = c.step-outcome.ensures.stands T st clean;
      is = (
        (
          by_owed g.V.Vault.holds c.args.office.now T st e (outcome_seen c.step-outcome.result) (c.step-outcome.ensures.outcome T st clean),
          refl,
          ap (λ xs. taken_text n xs c.args.count) (owed_whole g.V.Vault.holds c.args.office.now T st n lent (c.owed.ensures.lent T st) c.owed.ensures.count),
        ),
        caused_one (g.V.Vault.faults (vault_of c.args.office.now)) (g.V.Vault.faults (vault_of c.step-outcome.new.self)) T e
            (outcome_seen c.step-outcome.result) (c.step-outcome.ensures.cause T st clean),
      );
    }
