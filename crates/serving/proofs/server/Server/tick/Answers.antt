use Rattle.std.proofs.Common.{◌∷◌, [], refl}
use Rattle.office.specs.Events as event
use Rattle.office.specs.Seen.{outcome_seen}
use Rattle.office.specs.Outcomes.{event_tag_of}
use Rattle.office.specs.Taken.{trace_of}
use Rattle.serving.proofs.Staying.{fewer_tick}
use Rattle.serving.proofs.Seating.{seated_fewer}
use Rattle.serving.proofs.Keeping.{served_tick, adds_one}
use Rattle.serving.proofs.Working.{given_one, asked_none}
use Rattle.serving.proofs.Hearing.{hears_none}
use Rattle.serving.proofs.server.Server.tick.Goals as goal

pub returns-clause-serves : goal.returns-clause-serves
returns-clause-serves g c = λ seats these T elsewhere s clean.
    (let m = event_tag_of (outcome_seen c.step.result) in
    let now = trace_of T.base s.log in
    record {
      log = (event.Tick c.args.now, m) ∷ s.log;
      told = s.told;
      owner = s.owner;
      stands = c.step.ensures.stands now s.stands clean;
      admitted = (c.step.ensures.admitted now s.stands clean, s.admitted);
      tells = s.tells;
      served = served_tick s.told s.owner T.base s.log c.args.now m s.served;
      seated = seated_fewer s.owner T.base s.log seats these ((event.Tick c.args.now, m) ∷ s.log) (fewer_tick T.base s.log c.args.now m) s.seated;
      adds = adds_one s.owner T.base T.log s.log elsewhere s.told.accepted (event.Tick c.args.now) m tt (λ l Before h. h) (λ l. refl) s.adds;
    })

pub returns-clause-works : goal.returns-clause-works
returns-clause-works g c =
    let m = event_tag_of (outcome_seen c.step.result) in
    record {
      given = (event.Tick c.args.now, m) ∷ [];
      calls = [];
      was_given = given_one g.V.Vault c.args.self.now.office c.step.new.self
          (event.Tick c.args.now) (outcome_seen c.step.result) c.step.ensures.clean c.step.ensures.stands c.step.ensures.admitted
          c.step.ensures.counted c.step.ensures.cause c.step.ensures.up c.step.ensures.stop;
      was_asked = asked_none g.W.Wire.asked c.args.self.now.wire;
      facts = (
        record { is = λ B L s k. hears_none g.L.Listener.heard c.args.self.now.listener },
        record { event_tag = m; given_is = refl; calls_are = refl },
      );
    }
