use Rattle.std.proofs.Common.{rules, ◌≡◌, ℕ, List, ◌∙◌, ◌<◌, ◌≤◌, length, get_or, true, false, [], refl, sym, ap, subst, true≢false}
use Rattle.office.specs.Events.{Trace}
use Rattle.office.specs.Trace.{is_open}
use Rattle.serving.specs.declared.newcomers.Newcomer.{Newcomer}
use Rattle.serving.specs.Newcomers.{newcomer, others}
use Rattle.serving.proofs.Late.{others_of}
use Rattle.office.specs.Taken.{trace_of}
use Rattle.serving.proofs.Seating.{seated_whole}
use Rattle.serving.proofs.Composing.{shut_none, shut_then, asks_nothing, asks_both, asks_else, stands_same, clean_same}
use Rattle.serving.specs.declared.links.Seat.{Seat}
use Rattle.serving.proofs.Arriving.{closes_none, closes_more, closes_all}
use Rattle.serving.specs.Settings.{Settings}
use Rattle.serving.specs.Parts.{PollsAfterClosing}
use Rattle.serving.proofs.Resting.{polled_same, polled_then, releases_then}
use Rattle.serving.proofs.server.Server.close_links.Goals as goal

-- any seat
no_seat : Seat
no_seat = record { link = record { number = 0 }; connection = 0 }

-- who is open is noted as before, if who isn't is forgotten
others_open : (T : Trace) (q c : ℕ) (xs ys : List Newcomer) → ys ≡ others c xs → is_open T q ≡ true → is_open T c ≡ false → newcomer q ys ≡ newcomer q xs
others_open T q c xs ys is here shut = ap (newcomer q) is ∙ others_of q c xs (λ e. true≢false (sym here ∙ (ap (is_open T) e ∙ shut)))

pub loop-place-init : goal.loop-place-init
loop-place-init g c = record {
  serves = λ T elsewhere s clean. s;
  closes = shut_none c.args.clients.now;
  newcomers = λ T s q here. refl;
  works = asks_nothing g.W.Wire g.L.Listener c.args.self.now _
      (λ T s. (closes_none T c.args.clients.now.seats.items, polled_same c.args.clients.now.poll_now [], λ on e. cc));
}

pub loop-place-preserved-then-close_seat : goal.loop-place-preserved-then-close_seat
loop-place-preserved-then-close_seat g c =
    let k = c.loop-place in
    let x = c.close_seat in
    let within : k.place < length k.clients.seats.items = search rules in
    let waits : k.clients.wait ≡ c.args.clients.now.wait = ap (λ (s : Settings). s.wait) k.invariant.closes.keeps.set in
    record {
      serves = λ T elsewhere s clean. c.if-close_seat.ensures.serves T elsewhere (k.invariant.serves T elsewhere s (clean_same g.V.Vault.is_clean _ _ x.ensures.works.office clean)) clean;
      closes = shut_then c.args.clients.now k.clients x.new.clients k.invariant.closes x.ensures.closes.closes;
      newcomers = λ T s q here. ap (λ v. newcomer q v) (c.if-close_seat.ensures.closes.newcomers no_seat) ∙ k.invariant.newcomers T s q here;
      works = asks_both g.W.Wire g.L.Listener c.args.self.now k.self x.new.self _ _ _ (λ c1 c2 a b T s.
          (let p = a T s in
          let q = b T no_seat (stands_same g.V.Vault.holds _ _ k.invariant.works.office T s) in (
            closes_more T c.args.clients.now.seats.items k.clients.seats.items x.new.clients.seats.items k.place no_seat true c1 c2 within p.0 q.0,
            polled_then c.args.clients.now.poll_now k.clients.poll_now x.new.clients.poll_now c1 c2 p.1 q.1,
            releases_then c.args.clients.now.wait k.clients.poll_now x.new.clients.poll_now c1 c2 x.ensures.closes.closes.keeps.polled p.2
                (subst (λ n. PollsAfterClosing n x.new.clients.poll_now c2) waits q.2),
          ))) k.invariant.works c.if-close_seat.ensures.works;
    }

pub loop-place-preserved : goal.loop-place-preserved
loop-place-preserved g c =
    let k = c.loop-place in
    let x = c.close_seat in
    let within : k.place < length k.clients.seats.items = search rules in
    let waits : k.clients.wait ≡ c.args.clients.now.wait = ap (λ (s : Settings). s.wait) k.invariant.closes.keeps.set in
    record {
      serves = λ T elsewhere s clean. c.if-close_seat.ensures.serves T elsewhere (k.invariant.serves T elsewhere s (clean_same g.V.Vault.is_clean _ _ x.ensures.works.office clean)) clean;
      closes = shut_then c.args.clients.now k.clients x.new.clients k.invariant.closes x.ensures.closes.closes;
      newcomers = λ T s q here.
          (let seat = get_or k.clients.seats.items k.place no_seat in
          let shut : is_open T seat.connection ≡ false = sym (c.if-close_seat.ensures.works.part.facts T no_seat (stands_same g.V.Vault.holds _ _ k.invariant.works.office T s)).0.stays_if in
          others_open T q seat.connection k.clients.newcomers.newcomers.items x.new.clients.newcomers.newcomers.items (c.if-close_seat.ensures.closes.newcomers no_seat) here shut
          ∙ k.invariant.newcomers T s q here);
      works = asks_both g.W.Wire g.L.Listener c.args.self.now k.self x.new.self _ _ _
          (λ c1 c2 a b T s.
          (let p = a T s in
          let q = b T no_seat (stands_same g.V.Vault.holds _ _ k.invariant.works.office T s) in (
            closes_more T c.args.clients.now.seats.items k.clients.seats.items x.new.clients.seats.items k.place no_seat false c1 c2 within p.0 q.0,
            polled_then c.args.clients.now.poll_now k.clients.poll_now x.new.clients.poll_now c1 c2 p.1 q.1,
            releases_then c.args.clients.now.wait k.clients.poll_now x.new.clients.poll_now c1 c2 x.ensures.closes.closes.keeps.polled p.2
                (subst (λ n. PollsAfterClosing n x.new.clients.poll_now c2) waits q.2),
          ))) k.invariant.works c.if-close_seat.ensures.works;
    }

pub returns-clause-works : goal.returns-clause-works
returns-clause-works g c =
    let k = c.loop-place in
    let seats = k.clients.seats.items in
    let done : length seats ≤ k.place = search rules in
    asks_else g.W.Wire g.L.Listener c.args.self.now k.self _ _
    (λ calls a T s. (let p = a T s in (closes_all T c.args.clients.now.seats.items seats k.place calls done p.0, p.1, p.2))) k.invariant.works

pub returns-clause-serves : goal.returns-clause-serves
returns-clause-serves g c = λ T elsewhere s clean.
    (let k = c.loop-place.invariant.serves T elsewhere s clean in
    let seats = c.loop-place.clients.seats.items in
    let done : length seats ≤ c.loop-place.place = search rules in
    record {
      log = k.log;
      told = k.told;
      owner = k.owner;
      stands = k.stands;
      admitted = k.admitted;
      tells = k.tells;
      served = k.served;
      seated = seated_whole k.owner (trace_of T.base k.log) seats c.loop-place.place done k.seated;
      adds = k.adds;
    })
