use Rattle.std.proofs.Common.{rules, ◌≡◌, ◌<◌, ℕ, List, [], ◌∷◌, length, get_or, true, false, refl, sym, ◌∙◌, ap, subst, nat_lt}
use Rattle.office.specs.Trace.{is_open}
use Rattle.office.specs.Taken.{trace_of}
use Rattle.serving.specs.Wires.{has_closed}
use Rattle.serving.proofs.Keeping.{served_closed, closed_own}
use Rattle.serving.proofs.Seating.{contained, seat_owns, seated_on, seated_without, open_so, shut_so}
use Rattle.serving.specs.Works.{is_open_seat}
use Rattle.serving.specs.declared.wire.Port.TheVariants.{Pop}
use Rattle.serving.specs.Calls.{Closed}
use Rattle.serving.specs.declared.links.Seat.{Seat}
use Rattle.serving.proofs.Working.{asked_none, asked_one, or_true}
use Rattle.serving.proofs.Seating.{any_default}
use Rattle.serving.specs.Newcomers.{others, HaveSeats}
use Rattle.serving.proofs.Newly.{seats_without}
use Rattle.serving.proofs.Composing.{set_same, shut_none}
use Rattle.serving.proofs.Resting.{polled_same, is_left, is_right, some_wait}
use Rattle.serving.proofs.server.Server.close_seat.Goals as goal

-- any seat
no_seat : Seat
no_seat = record { link = record { number = 0 }; connection = 0 }

-- what is read at a place
at_place : (xs ys : List Seat) (i : ℕ) (e d : Seat) → ys ≡ xs → i < length xs → get_or ys i e ≡ get_or xs i d
at_place xs ys i e d is h = ap (λ zs. get_or zs i e) is ∙ any_default xs i e d h

pub returns-then-not-ended-clause-serves : goal.returns-then-not-ended-clause-serves
returns-then-not-ended-clause-serves g c = λ T elsewhere s clean.
    (let seats = c.args.clients.now.seats.items in
    let place = c.args.place in
    let ys = c.deref.result.now in
    let k = s in
    let goes : c.ended.result ≡ false = search rules in
    let here = open_so (is_open (trace_of T.base k.log) _) c.ended.result (c.ended.ensures (trace_of T.base k.log) k.stands) goes in
    record {
      log = k.log;
      told = k.told;
      owner = k.owner;
      stands = k.stands;
      admitted = k.admitted;
      tells = k.tells;
      served = k.served;
      seated = seated_on k.owner (trace_of T.base k.log) seats ys place _ c.deref.ensures.0 c.requires here k.seated;
      adds = k.adds;
    })

pub returns-clause-serves : goal.returns-clause-serves
returns-clause-serves g c = λ T elsewhere s clean.
    (let seats = c.args.clients.now.seats.items in
    let has = contained seats c.deref.result.now c.args.place _ c.deref.ensures.0 c.requires in
    let k = s in
    let over : c.ended.result ≡ true = search rules in
    let shut = shut_so (is_open (trace_of T.base k.log) _) c.ended.result (c.ended.ensures (trace_of T.base k.log) k.stands) over in
    let own = seat_owns k.owner seats _ has k.seated.own in
    record {
      log = k.log;
      told = has_closed k.told _;
      owner = k.owner;
      stands = k.stands;
      admitted = k.admitted;
      tells = c.close_link.ensures.told (record { pop = k.told; admin = elsewhere.admin }) k.tells;
      served = served_closed k.told k.owner T.base k.log _ (closed_own k.owner T.base k.log _ _ own shut) k.served;
      seated = seated_without k.owner (trace_of T.base k.log) seats c.deref.result.now c.args.place _ _ c.deref.ensures.0 c.remove.ensures.items c.requires shut k.seated;
      adds = k.adds;
    })

pub returns-then-not-ended-clause-works : goal.returns-then-not-ended-clause-works
returns-then-not-ended-clause-works g c = record {
  office = refl;
  unheard = λ h q. q;
  part = record {
    calls = [];
    was_asked = asked_none g.W.Wire.asked c.args.self.now.wire;
    facts = λ T d s.
        (let seats = c.args.clients.now.seats.items in
        let goes : c.ended.result ≡ false = search rules in
        let here = open_so (is_open T _) c.ended.result (c.ended.ensures T s) goes in (
          record {
            stays_if = sym (subst (λ q. is_open_seat T q ≡ true) (at_place seats c.deref.result.now c.args.place _ d c.deref.ensures.0 c.requires) here);
            left = refl;
            calls_are = refl;
          },
          polled_same c.args.clients.now.poll_now [],
          λ on e. cc,
        ));
  };
}

pub returns-clause-works : goal.returns-clause-works
returns-clause-works g c = record {
  office = refl;
  unheard = λ h q. c.close_link.ensures.heard h q;
  part = record {
    calls = Closed Pop _ ∷ [];
    was_asked = asked_one g.W.Wire.asked c.args.self.now.wire c.close_link.new.wire _ c.close_link.ensures.called;
    facts = λ T d s.
        (let seats = c.args.clients.now.seats.items in
        let over : c.ended.result ≡ true = search rules in
        let shut = shut_so (is_open T _) c.ended.result (c.ended.ensures T s) over in
        let at = at_place seats c.deref.result.now c.args.place _ d c.deref.ensures.0 c.requires in (
          record {
            stays_if = sym (subst (λ q. is_open_seat T q ≡ false) at shut);
            left = c.remove.ensures.items;
            calls_are = ap (λ q. Closed Pop q.link ∷ []) at;
          },
          λ e. or_true c.args.clients.now.poll_now,
          λ on e. is_right c.args.clients.now.poll_now (nat_lt 0 c.args.clients.now.wait) (some_wait c.args.clients.now.wait on),
        ));
  };
}

pub returns-then-not-ended-clause-closes : goal.returns-then-not-ended-clause-closes
returns-then-not-ended-clause-closes g c = record { closes = shut_none c.args.clients.now; newcomers = λ d. refl }

pub returns-clause-closes : goal.returns-clause-closes
returns-clause-closes g c =
    let links = c.args.clients.now in
    let seats = links.seats.items in
    let ns = links.newcomers.newcomers.items in
    let at = λ (d : Seat). at_place seats c.deref.result.now c.args.place _ d c.deref.ensures.0 c.requires in
    let s = get_or seats c.args.place no_seat in
    let gone = c.forget.ensures.newcomers ∙ ap (λ q. others q.connection ns) (at no_seat) in
    record {
      closes = record {
        keeps = record {
          set = set_same links.wait links.newcomers.seconds _ links.make_room links.guesses.are_slow c.forget.ensures.seconds;
          last = refl;
          polled = λ e. is_left links.poll_now (nat_lt 0 links.wait) e;
          pacing = λ h. h;
        };
        seated = λ h.
            subst (λ l. HaveSeats l c.remove.new.self.items) (sym gone)
            (subst (HaveSeats (others s.connection ns)) (sym c.remove.ensures.items) (seats_without s.connection ns seats c.args.place no_seat c.requires refl h));
      };
      newcomers = λ d. c.forget.ensures.newcomers ∙ ap (λ q. others q.connection ns) (at d);
    }
