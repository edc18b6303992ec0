use Rattle.std.proofs.Common.{[], Some, None, refl}
use Rattle.std.proofs.lemmas.List.Elements.{All-nil}
use Rattle.office.specs.Taken.{trace_of}
use Rattle.serving.specs.Served.{Precedes}
use Rattle.serving.proofs.Hearing.{hears_none}
use Rattle.serving.proofs.Rooms.{gives_seat, gives_open}
use Rattle.serving.proofs.Working.{given_none}
use Rattle.serving.proofs.server.Server.make_room.Goals as goal

pub returns-in_default-clause-works : goal.returns-in_default-clause-works
returns-in_default-clause-works g c = record {
  wire = refl;
  part = record {
    given = [];
    was_given = given_none g.V.Vault c.args.self.now.office;
    facts = (record { who = None; gives = c.in_default.ensures; gone = refl }, hears_none g.L.Listener.heard c.args.self.now.listener);
  };
}

pub returns-clause-serves : goal.returns-clause-serves
returns-clause-serves g c = λ wire T elsewhere s clean.
    (let clients = c.args.clients.now in
    let seat = c.in-Some.seat in
    c.end_seat.ensures.serves (λ U su. gives_open clients.make_room U _ clients.seats.items seat (c.in-Some.ensures U su)) wire clients.seats.items []
    (gives_seat clients.make_room (trace_of T.base s.log) _ clients.seats.items seat (c.in-Some.ensures (trace_of T.base s.log) s.stands)) (All-nil (λ q. Precedes q seat)) T elsewhere s clean)

pub returns-clause-works : goal.returns-clause-works
returns-clause-works g c =
    let w = c.end_seat.ensures.works.part in
    record {
      wire = c.end_seat.ensures.works.wire;
      part = record {
        given = w.given;
        was_given = w.was_given;
        facts = (record { who = Some c.in-Some.seat; gives = c.in-Some.ensures; gone = (w.facts.0.event_tag, w.facts.0.is) }, w.facts.1);
      };
    }
