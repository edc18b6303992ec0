use Rattle.std.proofs.Common.{rules, arith, ◌≡◌, ◌==◌, ◌<◌, ◌≤◌, ◌∷◌, [], true, false, length, refl, sym, ◌∙◌, ap, subst}
use Rattle.serving.specs.declared.links.Seat.{Seat}
use Rattle.serving.specs.Late.{HasEndedLate}
use Rattle.serving.proofs.Timely.{late_none, late_off, late_step, late_whole}
use Rattle.serving.specs.Served.{IsServing}
use Rattle.serving.specs.Hearing.{HasHeard, ends_by}
use Rattle.serving.proofs.Hearing.{hears_none, hears_ends}
use Rattle.office.specs.declared.account.End.TheVariants.{TooLate}
use Rattle.serving.proofs.Working.{given_none}
use Rattle.serving.proofs.Composing.{seats_none, seats_then, ends_none, ends_then}
use Rattle.serving.proofs.Releasing.{at_place}
use Rattle.serving.proofs.Seating.{contained}
use Rattle.serving.proofs.server.Server.end_late_ones.Goals as goal

-- any seat
no_seat : Seat
no_seat = record { link = record { number = 0 }; connection = 0 }

pub returns-then-seconds-eq0-clause-works : goal.returns-then-seconds-eq0-clause-works
returns-then-seconds-eq0-clause-works g c =
    let off : (c.args.seconds == 0) ≡ true = search rules in
    record {
      wire = refl;
      part = record {
        given = [];
        was_given = given_none g.V.Vault c.args.self.now.office;
        facts = (
          late_off g.V.Vault c.args.now c.args.seconds
              c.args.self.now.office c.args.clients.now.newcomers.newcomers.items c.args.clients.now.seats.items off,
          hears_none g.L.Listener.heard c.args.self.now.listener,
        );
      };
    }

pub returns-then-seconds-eq0-clause-ends : goal.returns-then-seconds-eq0-clause-ends
returns-then-seconds-eq0-clause-ends g c = ends_none c.args.now c.args.seconds c.args.clients.now

pub loop-place-init : goal.loop-place-init
loop-place-init g c = record {
  serves = λ T elsewhere s clean. s;
  keeps = seats_none c.args.clients.now;
  ends = ends_none c.args.now c.args.seconds c.args.clients.now;
  works = record {
    wire = refl;
    part =
        record {
          given = [];
          was_given =
              given_none g.V.Vault c.args.self.now.office;
          facts = (
            late_none g.V.Vault c.args.now c.args.seconds
                c.args.self.now.office c.args.clients.now.newcomers.newcomers.items,
            hears_none g.L.Listener.heard c.args.self.now.listener,
          );
        };
  };
}

pub loop-place-preserved : goal.loop-place-preserved
loop-place-preserved g c =
    let k = c.loop-place in
    let x = c.end_late in
    let n = c.args.clients.now.newcomers in
    let now = c.args.now in
    let Heard = g.L.Listener.heard in
    let l = c.args.self.now.listener in
    let some : (c.args.seconds == 0) ≡ false = search rules in
    let seats = k.clients.seats.items in
    let ys = c.deref.result.now in
    let within : k.place < length seats = search rules in
    let w = x.ensures.works.part in
    record {
      serves = λ T elsewhere s clean.
          (let served = x.ensures.serves seats [] (contained seats ys k.place _ c.deref.ensures.0 within) (λ j d inside. absurd (omega (arith, inside))) T elsewhere
          (k.invariant.serves T elsewhere s (w.was_given.clean clean)) clean in
          subst (λ kept. IsServing g.V.Vault.holds g.W.Wire.tells T elsewhere x.new.self.office x.new.self.wire kept.items []) (sym x.ensures.keeps.seats) served);
      keeps = seats_then c.args.clients.now k.clients x.new.clients k.invariant.keeps x.ensures.keeps;
      ends = ends_then now c.args.seconds c.args.clients.now k.clients x.new.clients k.invariant.ends x.ensures.ends;
      works = record {
        wire = x.ensures.works.wire ∙ k.invariant.works.wire;
        part = late_step g.V.Vault now c.args.seconds
            c.args.self.now.office k.self.office x.new.self.office n.newcomers.items k.clients.newcomers.newcomers.items
            x.new.clients.newcomers.newcomers.items c.args.clients.now.seats.items k.clients.seats.items k.place no_seat
            (λ given. HasHeard Heard l k.self.listener (ends_by TooLate given))
            (λ given. HasHeard Heard k.self.listener x.new.self.listener (ends_by TooLate given))
            (λ given. HasHeard Heard l x.new.self.listener (ends_by TooLate given)) (ap (λ v. v.items) k.invariant.keeps.seats) within k.invariant.ends.late
            (λ g1 g2 a b. hears_ends Heard TooLate l k.self.listener x.new.self.listener g1 g2 a b)
            k.invariant.works.part
            (record {
              given = w.given;
              was_given = w.was_given;
              facts = (
                λ d. at_place seats ys k.place _
                    (λ q. HasEndedLate g.V.Vault.holds g.V.Vault.is_clean k.self.office x.new.self.office now c.args.seconds
                    k.clients.newcomers.newcomers.items x.new.clients.newcomers.newcomers.items (q ∷ []) w.given) c.deref.ensures.0 within (w.facts.0 some) d,
                w.facts.1,
              );
            });
      };
    }

pub returns-clause-works : goal.returns-clause-works
returns-clause-works g c =
    let k = c.loop-place in
    let done : length k.clients.seats.items ≤ k.place = search rules in
    record {
      wire = k.invariant.works.wire;
      part = late_whole g.V.Vault c.args.now c.args.seconds c.args.self.now.office k.self.office c.args.clients.now.newcomers.newcomers.items
          k.clients.newcomers.newcomers.items c.args.clients.now.seats.items k.clients.seats.items k.place
          (λ given. HasHeard g.L.Listener.heard c.args.self.now.listener k.self.listener (ends_by TooLate given))
          (ap (λ v. v.items) k.invariant.keeps.seats) done k.invariant.works.part;
    }
