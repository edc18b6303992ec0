use Rattle.std.proofs.Common.{◌≡◌, ◌∷◌, [], MatchResult, refl, sym, subst}
use Rattle.office.specs.Events as event
use Rattle.office.specs.Log.{next_number}
use Rattle.office.specs.Trace.{acts}
use Rattle.office.specs.Seen.{outcome_seen}
use Rattle.office.specs.Outcomes.{event_tag_of}
use Rattle.office.specs.Stands.{lent_by, vault_of}
use Rattle.converse.specs.Conversing.{GoesOn, Refuses}
use Rattle.converse.proofs.Ends.{connects}
use Rattle.converse.proofs.Playing.{caused_one}
use Rattle.converse.proofs.talk.connect.Goals as goal

pub returns-clause-began : goal.returns-clause-began
returns-clause-began g c = λ T st clean.
    (let log = (event.Connect, event_tag_of (outcome_seen c.step.result)) ∷ T.log in
    record {
      log = log;
      stands = c.step.ensures.stands T st clean;
      own = record { opening = event_tag_of (outcome_seen c.step.result); own = []; each = refl; is = refl };
      caused = caused_one (g.V.Vault.faults (vault_of c.args.office.now)) (g.V.Vault.faults (vault_of c.step.new.self)) T event.Connect (outcome_seen c.step.result) (c.step.ensures.cause T st clean);
      so = subst (λ r. MatchResult r (λ n. (n ≡ next_number T.log) × GoesOn T.base (next_number T.log) (acts T) [] [] log) (λ e. Refuses T e log)) (sym c.opened.ensures.is)
          (connects T (lent_by c.args.office.now) (outcome_seen c.step.result) (c.step.ensures.outcome T st clean));
    })
