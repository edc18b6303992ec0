use Rattle.std.proofs.Common.{rules, ◌≡◌, [], true, false, refl, sym, subst, ◌∙◌, true≢false}
use Rattle.std.specs.List.{All}
use Rattle.std.proofs.lemmas.List.Elements.{All-nil, All-cons}
use Rattle.office.specs.Events as event
use Rattle.office.specs.Taken.{trace_of}
use Rattle.office.specs.Trace.{is_open}
use Rattle.serving.specs.Served.{IsServing}
use Rattle.serving.specs.Works.{IsLateGone}
use Rattle.serving.proofs.Seating.{open_so, shut_so}
use Rattle.serving.specs.Newcomers.{HaveSeats}
use Rattle.serving.proofs.Composing.{ends_none}
use Rattle.serving.proofs.Hearing.{hears_none}
use Rattle.serving.proofs.Late.{late_forgotten, late_so}
use Rattle.serving.proofs.Newly.{seated_others}
use Rattle.serving.proofs.Timely.{late_lived, late_prompt, late_unread, late_shut, prompt_so}
use Rattle.serving.proofs.Working.{given_none}
use Rattle.serving.proofs.server.Server.end_late.Goals as goal

pub returns-then-is_logged_in-clause-ends : goal.returns-then-is_logged_in-clause-ends
returns-then-is_logged_in-clause-ends g c =
    let links = c.args.clients.now in
    record {
      poll_now = refl;
      seated = λ h. subst (λ l. HaveSeats l links.seats.items) (sym c.forget.ensures.newcomers) (seated_others _ links.newcomers.newcomers.items links.seats.items h);
      late = late_forgotten c.args.now c.args.seconds _ links.newcomers.newcomers.items _ c.forget.ensures.newcomers;
    }

pub returns-then-lies_unread-clause-ends : goal.returns-then-lies_unread-clause-ends
returns-then-lies_unread-clause-ends g c = ends_none c.args.now c.args.seconds c.args.clients.now

pub returns-then-not-is_late-clause-ends : goal.returns-then-not-is_late-clause-ends
returns-then-not-is_late-clause-ends g c = ends_none c.args.now c.args.seconds c.args.clients.now

pub returns-then-ended-clause-ends : goal.returns-then-ended-clause-ends
returns-then-ended-clause-ends g c = ends_none c.args.now c.args.seconds c.args.clients.now

pub returns-clause-ends : goal.returns-clause-ends
returns-clause-ends g c = ends_none c.args.now c.args.seconds c.args.clients.now

pub returns-then-is_logged_in-clause-works : goal.returns-then-is_logged_in-clause-works
returns-then-is_logged_in-clause-works g c =
    let o = c.args.self.now.office in
    let yes : c.is_logged_in.result ≡ true = search rules in
    record {
      wire = refl;
      part = record {
        given = [];
        was_given = given_none g.V.Vault o;
        facts = (
          λ on. late_lived g.V.Vault c.args.now c.args.seconds o
              c.args.clients.now.newcomers.newcomers.items c.forget.new.self.newcomers.items c.args.seat c.forget.ensures.newcomers (λ T s. sym (c.is_logged_in.ensures T s) ∙ yes),
          hears_none g.L.Listener.heard c.args.self.now.listener,
        );
      };
    }

pub returns-then-lies_unread-clause-works : goal.returns-then-lies_unread-clause-works
returns-then-lies_unread-clause-works g c =
    let yes : c.lies_unread.result ≡ true = search rules in
    record {
      wire = refl;
      part = record {
        given = [];
        was_given = given_none g.V.Vault c.args.self.now.office;
        facts = (
          λ on. late_unread g.V.Vault c.args.now c.args.seconds c.args.self.now.office c.args.clients.now.newcomers.newcomers.items c.args.seat
              (sym c.lies_unread.ensures ∙ yes),
          hears_none g.L.Listener.heard c.args.self.now.listener,
        );
      };
    }

pub returns-then-not-is_late-clause-works : goal.returns-then-not-is_late-clause-works
returns-then-not-is_late-clause-works g c =
    let no : c.is_late.result ≡ false = search rules in
    record {
      wire = refl;
      part = record {
        given = [];
        was_given = given_none g.V.Vault c.args.self.now.office;
        facts = (
          λ on. late_prompt g.V.Vault c.args.now c.args.seconds c.args.self.now.office c.args.clients.now.newcomers.newcomers.items c.args.seat
              (prompt_so c.args.now c.args.seconds c.args.clients.now.newcomers.newcomers.items c.args.seat.connection (sym c.is_late.ensures ∙ no)),
          hears_none g.L.Listener.heard c.args.self.now.listener,
        );
      };
    }

pub returns-then-ended-clause-works : goal.returns-then-ended-clause-works
returns-then-ended-clause-works g c =
    let over : c.ended.result ≡ true = search rules in
    record {
      wire = refl;
      part = record {
        given = [];
        was_given = given_none g.V.Vault c.args.self.now.office;
        facts = (
          λ on. late_shut g.V.Vault c.args.now c.args.seconds c.args.self.now.office c.args.self.now.office c.args.clients.now.newcomers.newcomers.items c.args.seat []
              (All-nil (IsLateGone c.args.now c.args.seconds c.args.clients.now.newcomers.newcomers.items))
              (λ B L s clean. shut_so (is_open (trace_of B L) c.args.seat.connection) c.ended.result (c.ended.ensures (trace_of B L) s) over),
          hears_none g.L.Listener.heard c.args.self.now.listener,
        );
      };
    }

pub returns-clause-serves : goal.returns-clause-serves
returns-clause-serves g c = λ seats these has before T elsewhere s clean.
    (let stays : c.ended.result ≡ false = search rules in
    subst (λ w. IsServing g.V.Vault.holds g.W.Wire.tells T elsewhere c.end_seat.new.self.office w seats these) (sym c.end_seat.ensures.works.wire)
    (c.end_seat.ensures.serves (λ U su. open_so (is_open U c.args.seat.connection) c.ended.result (c.ended.ensures U su) stays) c.args.self.now.wire seats these has before T elsewhere s clean))

pub returns-clause-works : goal.returns-clause-works
returns-clause-works g c =
    let n = c.args.clients.now.newcomers in
    let is : c.is_late.result ≡ true = search rules in
    let stays : c.ended.result ≡ false = search rules in
    let w = c.end_seat.ensures.works.part in
    let P = IsLateGone c.args.now c.args.seconds n.newcomers.items in
    record {
      wire = c.end_seat.ensures.works.wire;
      part = record {
        given = w.given;
        was_given = w.was_given;
        facts = (
          λ on. late_shut g.V.Vault c.args.now c.args.seconds
              c.args.self.now.office c.end_seat.new.self.office n.newcomers.items c.args.seat w.given
              (subst (λ given. All P given) (sym w.facts.0.is)
              (All-cons P (event.Gone c.args.seat.connection, w.facts.0.event_tag) [] (late_so c.args.now c.args.seconds n.newcomers.items _ on (sym c.is_late.ensures ∙ is)) (All-nil P)))
              (w.facts.0.shut (λ U su. open_so (is_open U c.args.seat.connection) c.ended.result (c.ended.ensures U su) stays)),
          w.facts.1,
        );
      };
    }

pub returns-clause-unread : goal.returns-clause-unread
returns-clause-unread g c = λ h.
    (let no : c.lies_unread.result ≡ false = search rules in
    absurd (true≢false (sym h ∙ (sym c.lies_unread.ensures ∙ no))))
