use Rattle.std.proofs.Common.{[], None, refl, sym, subst, arith}
use Rattle.std.proofs.lemmas.List.Elements.{All-nil}
use Rattle.office.specs.Taken.{trace_of}
use Rattle.serving.specs.Served.{AreSeated}
use Rattle.serving.proofs.Seating.{none_seated}
use Rattle.serving.specs.Requests.{AreHeld, IsHeld}
use Rattle.serving.proofs.Requesting.{none_newer}
use Rattle.std.proofs.Common.{◌≤◌, length}
use Rattle.std.specs.List.{All}
use Rattle.serving.specs.HttpWorks.{IsShort}
use Rattle.serving.specs.Newcomers.{HaveSeats, NoSeat}
use Rattle.serving.specs.Guesses.{IsPacing, ArePacing}
use Rattle.serving.proofs.server.Server.begin.Goals as goal

pub returns-clause-serves : goal.returns-clause-serves
returns-clause-serves g c = λ T t site stands admitted none tells fresh files.
    record {
      elsewhere = record { acts = []; admin = t.admin; x = record { site = site; response = λ k. None; place = λ k. None } };
      tells = files;
      is = record {
        log = T.log;
        told = t.pop;
        owner = λ k. None;
        stands = stands;
        admitted = admitted;
        tells = tells;
        served = record {
          each = λ k. (fresh.0.read k, fresh.0.written k);
          own = λ j k n e f. cc;
          accepted = λ k n e. cc;
          opened = λ k n e. cc;
          over = λ k n o e. cc;
          straight = fresh.0.straight;
        };
        seated = subst (λ seats. AreSeated (λ k. None) (trace_of T.base T.log) seats seats) (sym c.new.ensures.seats) (none_seated (λ k. None) (trace_of T.base T.log) none);
        adds = record {
          events = record { more = []; is = refl; each = tt; filed = refl; counted = sym fresh.0.accepted };
          requests = record {
            each = λ k. (refl, fresh.1.written k);
            own = λ j k n e f. cc;
            before = λ k n e. cc;
            asked = λ newer older command m is late. absurd (none_newer T.log newer older command m is late);
            still = λ k high. (fresh.1.read k, refl);
            straight = fresh.1.straight;
          };
        };
      };
      sent = λ n. c.taken_is_sent.ensures T admitted n;
      requests = subst (λ held. AreHeld t.admin (record { site = site; response = λ k. None; place = λ k. None }) held) (sym c.new.ensures.requests)
          (record { each = All-nil (IsHeld t.admin (record { site = site; response = λ k. None; place = λ k. None })); ascend = λ i j d low within. absurd (omega (arith, within)) });
      of_site = refl;
    }

pub returns-clause-few : goal.returns-clause-few
returns-clause-few g c = subst (λ held. length held ≤ 8) (sym c.new.ensures.requests) (omega arith)

pub returns-clause-short : goal.returns-clause-short
returns-clause-short g c = subst (All IsShort) (sym c.new.ensures.requests) (All-nil IsShort)

pub returns-clause-seated : goal.returns-clause-seated
returns-clause-seated g c = subst (λ ns. HaveSeats ns c.new.result.clients.seats.items) (sym c.new.ensures.newcomers) (subst (HaveSeats []) (sym c.new.ensures.seats) NoSeat)

pub returns-clause-pacing : goal.returns-clause-pacing
returns-clause-pacing g c = subst ArePacing (sym c.new.ensures.refusals) (All-nil IsPacing)
