use Rattle.std.proofs.Common.{◌≡◌, ◌∷◌, [], false, sym, refl, subst}
use Rattle.office.specs.Events.{Tagged}
use Rattle.office.specs.Events as event
use Rattle.office.specs.Seen.{outcome_seen}
use Rattle.office.specs.Outcomes.{event_tag_of}
use Rattle.office.specs.Stands.{lent_by}
use Rattle.office.specs.Taken.{trace_of}
use Rattle.office.specs.Trace.{is_open}
use Rattle.serving.specs.Served.{AreServed, AreSeated}
use Rattle.serving.proofs.EventTags.{gone_mark}
use Rattle.serving.proofs.Staying.{fewer_framed, frame_gone, gone_so}
use Rattle.serving.proofs.Seating.{seat_owns, seated_one}
use Rattle.serving.proofs.Keeping.{served_gone, adds_one}
use Rattle.serving.proofs.Working.{given_one}
use Rattle.serving.proofs.server.Server.end_seat.Goals as goal

pub returns-clause-serves : goal.returns-clause-serves
returns-clause-serves g c = λ opens wire seats these has before T elsewhere s clean.
    (let number = c.args.seat.link.number in
    let connection = c.args.seat.connection in
    let now = trace_of T.base s.log in
    let o = outcome_seen c.step.result in
    let here = opens now s.stands in
    let at_k = seat_owns s.owner seats c.args.seat has s.seated.own in
    let k = gone_mark now (lent_by c.args.self.now.office) connection o here (c.step.ensures.outcome now s.stands clean) in
    record {
      log = (event.Gone connection, event_tag_of o) ∷ s.log;
      told = s.told;
      owner = s.owner;
      stands = c.step.ensures.stands now s.stands clean;
      admitted = (c.step.ensures.admitted now s.stands clean, s.admitted);
      tells = s.tells;
      served = subst (λ m. AreServed s.told s.owner T.base ((event.Gone connection, m) ∷ s.log)) (sym k.1)
          (served_gone s.told s.owner T.base s.log number connection k.0 s.served here);
      seated = subst (λ m. AreSeated s.owner (trace_of T.base ((event.Gone connection, m) ∷ s.log)) seats these) (sym k.1)
          (seated_one s.owner T.base s.log seats these ((event.Gone connection, Tagged k.0) ∷ s.log) c.args.seat before
          (fewer_framed T.base s.log connection ((event.Gone connection, Tagged k.0) ∷ s.log) here (frame_gone T.base s.log connection k.0)) (frame_gone T.base s.log connection k.0) s.seated);
      adds = adds_one s.owner T.base T.log s.log elsewhere s.told.accepted (event.Gone connection) (event_tag_of o) (number, at_k) (λ l Before h. h) (λ l. refl) s.adds;
    })

pub returns-clause-works : goal.returns-clause-works
returns-clause-works g c =
    let o = outcome_seen c.step.result in
    let m = event_tag_of o in
    let connection = c.args.seat.connection in
    let e = event.Gone connection in
    record {
      wire = refl;
      part = record {
        given = (e, m) ∷ [];
        was_given = given_one g.V.Vault c.args.self.now.office c.step.new.self e
            o c.step.ensures.clean c.step.ensures.stands c.step.ensures.admitted c.step.ensures.counted c.step.ensures.cause c.step.ensures.up c.step.ensures.stop;
        facts = (
          record {
            event_tag = m;
            is = refl;
            shut = λ opens B L s clean.
                (let here = opens (trace_of B L) s in
                let k = gone_mark (trace_of B L) (lent_by c.args.self.now.office) connection o here (c.step.ensures.outcome (trace_of B L) s clean) in
                subst (λ x. is_open (trace_of B ((event.Gone connection, x) ∷ L)) connection ≡ false) (sym k.1) (gone_so B L connection k.0));
          },
          record { is = λ before k. c.on_account.ensures.heard before k },
        );
      };
    }
