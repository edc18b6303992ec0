use Rattle.std.proofs.Common.{rules, arith, ◌≡◌, ◌<◌, ◌≤◌, ◌⊎◌, ◌||◌, ◌∙◌, ⊎_elim, inl, true, false, [], length, refl, sym, subst, ap, true≢false}
use Rattle.vault.specs.Records.{Records}
use Rattle.office.specs.Events.{Log}
use Rattle.office.specs.Taken.{trace_of}
use Rattle.office.specs.Stands.{StandsFor, vault_of}
use Rattle.serving.specs.Quits.{AwaitsQuit}
use Rattle.serving.specs.declared.links.Seat.{Seat}
use Rattle.serving.specs.Served.{IsServing}
use Rattle.serving.specs.Newcomers.{Settles}
use Rattle.serving.specs.Parts.{ReleasesLock}
use Rattle.serving.specs.Settings.{settings_of}
use Rattle.serving.specs.ClientParts.{way_at}
use Rattle.serving.specs.InOrder.{ServesSeat}
use Rattle.serving.proofs.Seating.{contained}
use Rattle.serving.proofs.Composing.{seats_then, does_none, does_so, does_then}
use Rattle.serving.proofs.Turns.{served_at}
use Rattle.serving.proofs.Releasing.{at_place, were_none, were_next, were_whole}
use Rattle.serving.proofs.Resting.{is_left, clients_polled, or_both}
use Rattle.serving.proofs.Settling.{settled_none, settled_then, are_settled, unread_before, touched_next}
use Rattle.serving.proofs.server.Server.serve_links.Goals as goal

-- any seat
no_seat : Seat
no_seat = record { link = record { number = 0 }; connection = 0 }

pub loop-place-init : goal.loop-place-init
loop-place-init g c =
    let clients = c.args.clients.now in
    let newcomers = clients.newcomers.newcomers.items in
    let preparing = c.begin_turn.new.self.is_preparing in
    record {
      serves = λ T elsewhere s clean. s;
      keeps = record { keeps = record { set = refl; last = refl; polled = λ e. e; pacing = λ h. h }; seats = refl };
      settled = settled_none c.args.now newcomers;
      touched = λ n. inl refl;
      releases = λ e. cc;
      prepares = λ e. absurd (true≢false (sym e ∙ c.begin_turn.ensures.none));
      left = λ e. absurd (true≢false (sym e ∙ c.begin_turn.ensures.none));
      counts = c.begin_turn.ensures.counts;
      works = does_none g.V.Vault g.W.Wire g.L.Listener c.args.self.now _ (
        were_none g.V.Vault c.args.self.now.office
            (settings_of clients) c.args.now newcomers preparing clients.poll_now newcomers clients.seats.items c.begin_turn.ensures.none,
        λ e. is_left (clients.poll_now || (preparing || false)) false (is_left clients.poll_now (preparing || false) e),
      );
    }

pub loop-place-preserved : goal.loop-place-preserved
loop-place-preserved g c =
    let Holds = g.V.Vault.holds in
    let IsClean = g.V.Vault.is_clean in
    let s = c.args.self.now in
    let k = c.loop-place in
    let x = c.serve_client in
    let s1 = k.self in
    let s2 = x.new.self in
    let old = c.args.clients.now in
    let served = x.new.clients in
    let seats = k.clients.seats.items in
    let ys = c.deref.result.now in
    let within : k.place < length seats = search rules in
    let lies = at_place seats ys k.place _ (λ q. Settles c.args.now q.connection k.clients served) c.deref.ensures.0 within x.ensures.settles no_seat in
    let releases = at_place seats ys k.place _ (λ q. ReleasesLock Holds s1.office s2.office k.clients served q.connection) c.deref.ensures.0 within x.ensures.releases no_seat in
    let same = ap (λ v. v.items) k.invariant.keeps.seats in
    let polled = x.ensures.keeps.keeps.polled in
    let was = k.quits.is_preparing in
    let now = x.new.quits.is_preparing in
    let more = x.ensures.prepares in
    record {
      serves = λ T elsewhere b clean.
          (let serves = x.ensures.serves seats [] (contained seats ys k.place _ c.deref.ensures.0 within) (λ j d inside. absurd (omega (arith, inside))) T elsewhere
          (k.invariant.serves T elsewhere b (x.ensures.works.was_given.clean clean)) clean in
          subst (λ kept. IsServing Holds g.W.Wire.tells T elsewhere s2.office s2.wire kept.items []) (sym x.ensures.keeps.seats) serves);
      keeps = seats_then old k.clients served k.invariant.keeps x.ensures.keeps;
      settled = settled_then c.args.now old.newcomers.newcomers.items k.clients.newcomers.newcomers.items served.newcomers.newcomers.items k.invariant.settled
          (are_settled _ lies.lies c.args.now k.clients.newcomers.newcomers.items served.newcomers.newcomers.items lies.is);
      touched = touched_next c.args.now lies.lies old.newcomers.newcomers.items k.clients.newcomers.newcomers.items served.newcomers.newcomers.items
          old.seats.items seats k.place no_seat same within lies.is k.invariant.touched;
      releases = λ e. ⊎_elim (λ (b : k.clients.lock_released ≡ true). polled (k.invariant.releases b)) (λ (h : served.poll_now ≡ true). h) (releases.more.poll_now e);
      prepares = λ e. ⊎_elim (λ (b : was ≡ true). polled (k.invariant.prepares b)) (λ (h : served.poll_now ≡ true). h) (more.polled e);
      left = λ e.
          ⊎_elim (λ (b : was ≡ true). k.invariant.left b)
          (λ (h : 0 < k.quits.turns_left). subst (λ n. 0 < n) k.invariant.counts h) (x.ensures.counts.left e);
      counts = x.ensures.counts.same ∙ k.invariant.counts;
      works = does_then g.V.Vault g.W.Wire g.L.Listener s s1 s2 _ _ _
          (λ g1 g2 c1 c2 wa wb a b. (
            were_next g.V.Vault s.office s1.office s2.office
                (settings_of old) c.args.now old.newcomers.newcomers.items served.newcomers.newcomers.items old.seats.items
                k.clients was served.lock_released now served.poll_now k.place no_seat g1 g2 c1 c2
                k.invariant.keeps.keeps.set same within releases.more.still more.still polled releases.is
                (unread_before _ lies.lies c.args.now k.clients.newcomers.newcomers.items served.newcomers.newcomers.items lies.is) k.invariant.touched wa wb a.0
                (served_at g.V.Vault s1.office s2.office
                (way_at c.args.now k.clients now served.poll_now) served.newcomers.newcomers.items seats ys k.place _ g2 c2 c.deref.ensures.0 within b.0.turns no_seat)
                (at_place seats ys k.place _ (λ q. ServesSeat q 1 128 g2 c2) c.deref.ensures.0 within b.0.served no_seat)
                (at_place seats ys k.place _ (λ q. now ≡ true → (was ≡ true)
                ⊎ ((B : Records) (L : Log) → StandsFor Holds s1.office (trace_of B L) → IsClean (vault_of s2.office) → AwaitsQuit B L g2 c2 q))
                c.deref.ensures.0 within b.0.awaits no_seat),
            clients_polled old.poll_now k.clients.poll_now served.poll_now (was || k.clients.lock_released) (now || served.lock_released) c1 c2
                (or_both was k.clients.lock_released now served.lock_released more.still releases.more.still) a.1 b.1,
          ))
          k.invariant.works x.ensures.works;
    }

pub returns-clause-works : goal.returns-clause-works
returns-clause-works g c =
    let k = c.loop-place in
    let done : length k.clients.seats.items ≤ k.place = search rules in
    does_so g.V.Vault g.W.Wire g.L.Listener c.args.self.now k.self _ _ (λ gv cl wa a. (
      were_whole g.V.Vault c.args.self.now.office k.self.office
          (settings_of c.args.clients.now) c.args.now c.args.clients.now.newcomers.newcomers.items
          k.clients.lock_released k.quits.is_preparing k.clients.poll_now k.clients.newcomers.newcomers.items c.args.clients.now.seats.items k.clients.seats.items k.place gv cl
          (ap (λ v. v.items) k.invariant.keeps.seats) done a.0,
      a.1,
    )) k.invariant.works
