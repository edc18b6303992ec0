use Rattle.std.proofs.Common.{rules, ◌≡◌, ◌<◌, true, length, eqb-true, ◌∷◌, [], ◌++◌, Some, None, refl, sym, ◌∙◌, ap, subst}
use Rattle.office.specs.History.{Done}
use Rattle.office.specs.Events.{Tagged}
use Rattle.office.specs.Events as event
use Rattle.office.specs.Log.{next_number}
use Rattle.office.specs.Seen.{outcome_seen}
use Rattle.office.specs.Outcomes.{event_tag_of}
use Rattle.office.specs.Stands.{lent_by}
use Rattle.office.specs.Taken.{trace_of}
use Rattle.serving.specs.Wires.{has_accepted, has_closed, opened_by}
use Rattle.serving.specs.Served.{AreServed}
use Rattle.serving.proofs.Staying.{Frame, frame_connect}
use Rattle.serving.proofs.Seating.{seated_same, seated_more}
use Rattle.serving.proofs.Keeping.{adds_connect}
use Rattle.serving.proofs.Accepting.{Comes, IsRefusal, comes, owned_at, owned_still, owned_new, opened_before, served_accepted, served_unseated, refused_same, adds_still}
use Rattle.serving.specs.declared.wire.Port.TheVariants.{Pop}
use Rattle.serving.specs.Calls.{Accepted, Closed}
use Rattle.serving.specs.Works.{WasAsked}
use Rattle.serving.proofs.Working.{given_none, given_one, given_then, asked_one, asked_then, part_none}
use Rattle.serving.proofs.Hearing.{hears_none, made_heard}
use Rattle.serving.proofs.Arriving.{done_mark, refusal_so, accepted_full, accepted_none, accepted_seated, accepted_unseated}
use Rattle.serving.proofs.Composing.{set_same}
use Rattle.serving.proofs.Newly.{noted_none, noted_one}
use Rattle.serving.proofs.server.Server.accept_link.Goals as goal

pub returns-in-Some-number-clause-serves : goal.returns-in-Some-number-clause-serves
returns-in-Some-number-clause-serves g c = λ T elsewhere s0 clean.
    (let s = c.make_room.ensures.serves c.args.self.now.wire T elsewhere s0 (c.step.ensures.clean clean) in
    let now = trace_of T.base s.log in
    let o = outcome_seen c.step.result in
    let connection = c.in-Some-number.connection in
    let seats = c.args.clients.now.seats.items in
    let accepted = c.in-Some.ensures.told (record { pop = s.told; admin = elsewhere.admin }) s.tells in
    let e : opened_by o ≡ Some connection = sym c.opened-number.ensures ∙ c.in-Some-number.is in
    let k = subst (Comes s.log o) {y = Some connection} e (comes now (lent_by c.make_room.new.self.office) o (c.step.ensures.outcome now s.stands clean)) in
    let after = owned_at s.told.accepted (next_number s.log) s.owner in
    let still = owned_still s.told s.owner T.base s.log s.served in
    let own : after c.in-Some.link.number ≡ Some connection = ap after accepted.0 ∙ (owned_new s.told s.owner T.base s.log ∙ ap Some (sym k.1)) in
    record {
      log = (event.Connect, event_tag_of o) ∷ s.log;
      told = has_accepted s.told;
      owner = after;
      stands = c.step.ensures.stands now s.stands clean;
      admitted = (c.step.ensures.admitted now s.stands clean, s.admitted);
      tells = subst (λ w. g.W.Wire.tells w (record { pop = has_accepted s.told; admin = elsewhere.admin })) (sym c.make_room.ensures.works.wire) accepted.1;
      served = subst (λ m. AreServed (has_accepted s.told) after T.base ((event.Connect, m) ∷ s.log)) (sym k.0) (served_accepted s.told s.owner T.base s.log s.served);
      seated = seated_more s.owner after T.base s.log ((event.Connect, event_tag_of o) ∷ s.log) seats _ (record { link = c.in-Some.link; connection = connection }) c.push.ensures.items still
          (opened_before s.told s.owner T.base s.log connection k.1 s.served) own
          (subst (λ m. Frame T.base s.log ((event.Connect, m) ∷ s.log) connection) (sym k.0)
          (subst (Frame T.base s.log ((event.Connect, Tagged Done) ∷ s.log)) (sym k.1) (frame_connect T.base s.log))) s.seated;
      adds = adds_connect after T.base T.log s.log elsewhere s.told.accepted (event_tag_of o) (adds_still s.owner after still T.base T.log s.log elsewhere s.told.accepted s.adds);
    })

pub returns-in-None-clause-serves : goal.returns-in-None-clause-serves
returns-in-None-clause-serves g c = λ T elsewhere s0 clean.
    (let s = c.make_room.ensures.serves c.args.self.now.wire T elsewhere s0 (c.step.ensures.clean clean) in
    let now = trace_of T.base s.log in
    let o = outcome_seen c.step.result in
    let accepted = c.in-Some.ensures.told (record { pop = s.told; admin = elsewhere.admin }) s.tells in
    let e : opened_by o ≡ None = sym c.opened-number.ensures ∙ c.in-None.is in
    let k : IsRefusal (event_tag_of o) = subst (Comes s.log o) {y = None} e (comes now (lent_by c.make_room.new.self.office) o (c.step.ensures.outcome now s.stands clean)) in
    record {
      log = (event.Connect, event_tag_of o) ∷ s.log;
      told = has_closed (has_accepted s.told) c.in-Some.link.number;
      owner = s.owner;
      stands = c.step.ensures.stands now s.stands clean;
      admitted = (c.step.ensures.admitted now s.stands clean, s.admitted);
      tells = c.close_link.ensures.told (record { pop = has_accepted s.told; admin = elsewhere.admin })
          (subst (λ w. g.W.Wire.tells w (record { pop = has_accepted s.told; admin = elsewhere.admin })) (sym c.make_room.ensures.works.wire) accepted.1);
      served = subst (λ n. AreServed (has_closed (has_accepted s.told) n) s.owner T.base ((event.Connect, event_tag_of o) ∷ s.log)) (sym accepted.0)
          (served_unseated s.told s.owner T.base s.log (event_tag_of o) k s.served);
      seated = seated_same s.owner T.base s.log c.args.clients.now.seats.items [] ((event.Connect, event_tag_of o) ∷ s.log) (refused_same s.told s.owner T.base s.log (event_tag_of o) k) s.seated;
      adds = adds_connect s.owner T.base T.log s.log elsewhere s.told.accepted (event_tag_of o) s.adds;
    })

pub returns-then-is_full-clause-works : goal.returns-then-is_full-clause-works
returns-then-is_full-clause-works g c =
    let s = c.args.self.now in
    let is : c.is_full.result ≡ true = search rules in
    let full : length c.args.clients.now.seats.items ≡ 128 = eqb-true (length c.args.clients.now.seats.items) 128 (sym c.is_full.ensures.value ∙ is) in
    part_none g.V.Vault g.W.Wire.asked s.office s.wire _
    (hears_none g.L.Listener.heard s.listener, accepted_full g.V.Vault c.args.clients.now.make_room s.office c.args.clients.now.seats.items full)

pub returns-in_default-clause-works : goal.returns-in_default-clause-works
returns-in_default-clause-works g c =
    let s = c.args.self.now in
    record {
      given = [];
      calls = Accepted Pop None ∷ [];
      was_given = given_none g.V.Vault s.office;
      was_asked = asked_one g.W.Wire.asked s.wire c.accept.new.self (Accepted Pop None) c.in_default.ensures.called;
      facts = (hears_none g.L.Listener.heard s.listener, accepted_none g.V.Vault c.args.clients.now.make_room s.office c.args.clients.now.seats.items);
    }

pub returns-in-Some-number-clause-works : goal.returns-in-Some-number-clause-works
returns-in-Some-number-clause-works g c =
    let Heard = g.L.Listener.heard in
    let s = c.args.self.now in
    let r = c.make_room.new.self in
    let room = c.make_room.ensures.works.part in
    let o = outcome_seen c.step.result in
    let e : opened_by o ≡ Some c.in-Some-number.connection = sym c.opened-number.ensures ∙ c.in-Some-number.is in
    record {
      given = (event.Connect, event_tag_of o) ∷ room.given;
      calls = Accepted Pop (Some c.in-Some.link) ∷ [];
      was_given = given_then g.V.Vault s.office r.office c.step.new.self room.given ((event.Connect, event_tag_of o) ∷ []) room.was_given
          (given_one g.V.Vault r.office c.step.new.self event.Connect o
          c.step.ensures.clean c.step.ensures.stands c.step.ensures.admitted c.step.ensures.counted c.step.ensures.cause c.step.ensures.up c.step.ensures.stop);
      was_asked = subst (λ w. WasAsked g.W.Wire.asked s.wire w (Accepted Pop (Some c.in-Some.link) ∷ [])) (sym c.make_room.ensures.works.wire)
          (asked_one g.W.Wire.asked s.wire c.accept.new.self (Accepted Pop (Some c.in-Some.link)) c.in-Some.ensures.called);
      facts = (
        made_heard Heard s.listener c.on_link.new.self r.listener c.on_open.new.self room.given (event_tag_of o)
            c.on_link.ensures.heard room.facts.1 c.on_open.ensures.heard,
        accepted_seated g.V.Vault c.args.clients.now.make_room s.office c.step.new.self _ c.args.clients.now.seats.items _ c.in-Some.link c.in-Some-number.connection
            (event_tag_of o) room.given (done_mark o c.in-Some-number.connection e) c.push.ensures.items room.facts.0,
      );
    }

pub returns-in-None-clause-works : goal.returns-in-None-clause-works
returns-in-None-clause-works g c =
    let Heard = g.L.Listener.heard in
    let Asked = g.W.Wire.asked in
    let s = c.args.self.now in
    let r = c.make_room.new.self in
    let room = c.make_room.ensures.works.part in
    let o = outcome_seen c.step.result in
    let link = c.in-Some.link in
    let e : opened_by o ≡ None = sym c.opened-number.ensures ∙ c.in-None.is in
    record {
      given = (event.Connect, event_tag_of o) ∷ room.given;
      calls = Accepted Pop (Some link) ∷ Closed Pop link ∷ [];
      was_given = given_then g.V.Vault s.office r.office c.step.new.self room.given ((event.Connect, event_tag_of o) ∷ []) room.was_given
          (given_one g.V.Vault r.office c.step.new.self event.Connect o
          c.step.ensures.clean c.step.ensures.stands c.step.ensures.admitted c.step.ensures.counted c.step.ensures.cause c.step.ensures.up c.step.ensures.stop);
      was_asked = asked_then Asked s.wire r.wire c.close_link.new.wire (Accepted Pop (Some link) ∷ []) (Closed Pop link ∷ [])
          (subst (λ w. WasAsked Asked s.wire w (Accepted Pop (Some link) ∷ [])) (sym c.make_room.ensures.works.wire)
          (asked_one Asked s.wire c.accept.new.self (Accepted Pop (Some link)) c.in-Some.ensures.called))
          (asked_one Asked r.wire c.close_link.new.wire (Closed Pop link) c.close_link.ensures.called);
      facts = (
        made_heard Heard s.listener c.on_link.new.self r.listener c.close_link.new.listener room.given (event_tag_of o)
            c.on_link.ensures.heard room.facts.1 c.close_link.ensures.heard,
        accepted_unseated g.V.Vault c.args.clients.now.make_room s.office c.step.new.self _ c.args.clients.now.seats.items link (event_tag_of o) room.given
            (λ T st k.
            (let U = trace_of T.base (room.given ++ T.log) in
            let st1 = room.was_given.stands T.base T.log st (c.step.ensures.clean k) in
            let r : IsRefusal (event_tag_of o) = subst (Comes U.log o) {y = None} e (comes U (lent_by c.make_room.new.self.office) o (c.step.ensures.outcome U st1 k)) in
            refusal_so (event_tag_of o) r))
            room.facts.0,
      );
    }

pub returns-then-is_full-clause-comers : goal.returns-then-is_full-clause-comers
returns-then-is_full-clause-comers g c = noted_none c.args.now c.args.clients.now

pub returns-in_default-clause-comers : goal.returns-in_default-clause-comers
returns-in_default-clause-comers g c = noted_none c.args.now c.args.clients.now

pub returns-in-None-clause-comers : goal.returns-in-None-clause-comers
returns-in-None-clause-comers g c = noted_none c.args.now c.args.clients.now

pub returns-in-Some-number-clause-comers : goal.returns-in-Some-number-clause-comers
returns-in-Some-number-clause-comers g c =
    let free : length c.args.clients.now.seats.items < 128 = search rules in
    let old = c.args.clients.now in
    noted_one c.args.now old _ c.in-Some.link c.in-Some-number.connection c.note.result
    (record {
      set = set_same old.wait old.newcomers.seconds _ old.make_room old.guesses.are_slow c.note.ensures.seconds;
      last =
          refl;
      polled = λ e. e;
      pacing = λ h. h;
    })
    refl c.push.ensures.items c.note.ensures.newcomers c.note.ensures.room free
