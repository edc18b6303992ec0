use Rattle.serving.proofs.Looking.{serving_seen}
use Rattle.std.proofs.Common.{rules, ◌≡◌, ◌==◌, ◌∙◌, ◌||◌, ◌++◌, true, false, [], sym, ap, subst}
use Rattle.office.specs.Taken.{trace_of}
use Rattle.serving.specs.ClientParts.{IsUnread, may_keep, may_at}
use Rattle.serving.specs.Works.{reads_by_line, is_moving}
use Rattle.serving.specs.Parts.{PollsBy}
use Rattle.serving.proofs.Composing.{does_none}
use Rattle.serving.proofs.Offering.{unwritten_look}
use Rattle.serving.proofs.Ordered.{looked_served}
use Rattle.serving.proofs.Turns.{read_none, read_unread, read_asked, read_after, read_part}
use Rattle.serving.proofs.Unread.{may_so, line_so, looked_quiet, unread_so}
use Rattle.serving.proofs.Hearing.{heard_on}
use Rattle.serving.proofs.Working.{any_right, part_so}
use Rattle.serving.proofs.Resting.{polled_quiet, polled_moved}
use Rattle.serving.specs.Newcomers.{newcomer, lies_unread, settled_in}
use Rattle.serving.specs.Paces.{most_paced}
use Rattle.std.proofs.Common.{nat_lt, ◌&&◌}
use Rattle.serving.proofs.Settling.{not_unread}
use Rattle.serving.proofs.server.Server.read_piece.Goals as goal

pub returns-then-part-eq0-clause-serves : goal.returns-then-part-eq0-clause-serves
returns-then-part-eq0-clause-serves g c = λ seats these has before T elsewhere s clean.
    serving_seen g.V.Vault.holds g.W.Wire.tells T elsewhere _ _ _ seats these c.next_part-part.ensures.told s

pub returns-then-not-read_once-clause-serves : goal.returns-then-not-read_once-clause-serves
returns-then-not-read_once-clause-serves g c = λ seats these has before T elsewhere s clean.
    c.read_once.ensures.serves seats these has before T elsewhere (serving_seen g.V.Vault.holds g.W.Wire.tells T elsewhere _ _ _ seats these c.next_part-part.ensures.told s) clean

pub returns-clause-serves : goal.returns-clause-serves
returns-clause-serves g c = λ seats these has before T elsewhere s clean.
    c.read_once.ensures.serves seats these has before T elsewhere (serving_seen g.V.Vault.holds g.W.Wire.tells T elsewhere _ _ _ seats these c.next_part-part.ensures.told s) clean

pub returns-then-not-ready-clause-settles : goal.returns-then-not-ready-clause-settles
returns-then-not-ready-clause-settles g c = record { lies = false; is = c.settle.ensures.newcomers }

pub returns-then-part-eq0-clause-settles : goal.returns-then-part-eq0-clause-settles
returns-then-part-eq0-clause-settles g c = record { lies = _; is = c.settle-2.ensures.newcomers }

pub returns-then-not-read_once-clause-settles : goal.returns-then-not-read_once-clause-settles
returns-then-not-read_once-clause-settles g c = record { lies = _; is = c.settle-2.ensures.newcomers }

pub returns-clause-settles : goal.returns-clause-settles
returns-clause-settles g c = record { lies = _; is = ap (λ n. n.newcomers.items) c.note_guess.ensures.keeps.newcomers ∙ c.settle-2.ensures.newcomers }

pub returns-then-not-ready-clause-works : goal.returns-then-not-ready-clause-works
returns-then-not-ready-clause-works g c =
    let links = c.args.clients.now in
    let no : c.ready.result ≡ false = search rules in
    does_none g.V.Vault g.W.Wire g.L.Listener c.args.self.now _ (
      read_none g.V.Vault links.wait
          (reads_by_line links.wait (may_keep links)) (may_at c.args.now links c.args.seat.connection)
          (lies_unread (newcomer c.args.seat.connection c.settle.new.self.newcomers.items)) c.args.self.now.office c.args.seat
          (not_unread c.args.seat.connection c.args.now links.newcomers.newcomers.items c.settle.new.self.newcomers.items c.settle.ensures.newcomers)
          (λ B L s. sym (c.ready.ensures (trace_of B L) s) ∙ no),
      polled_quiet links.poll_now [],
    )

pub returns-then-part-eq0-clause-works : goal.returns-then-part-eq0-clause-works
returns-then-part-eq0-clause-works g c =
    let Holds = g.V.Vault.holds in
    let IsClean = g.V.Vault.is_clean in
    let o = c.args.self.now.office in
    let links = c.args.clients.now in
    let seat = c.args.seat in
    let may = may_at c.args.now links seat.connection in
    let lines = reads_by_line links.wait (may_keep links) in
    let p = c.pace_at-pace in
    let pace = p.result in
    let refusals = links.guesses.refusals.items in
    let part = c.next_part-part in
    let a = part.ensures.works in
    let none : part.result.count ≡ 0 = search rules in
    let noted = lies_unread (newcomer seat.connection c.settle-2.new.self.newcomers.items) in
    let unread = subst (λ w. IsUnread Holds o seat w may a.calls) p.ensures.pace.wait
    (unread_so Holds o seat pace refusals may part.result.count part.result.login a.calls
    (λ h. subst (λ w. (links.lock_released || (links.guesses.are_slow && nat_lt w most_paced)) ≡ true) p.ensures.pace.waited
    (may_so links.guesses.are_slow links.lock_released pace.is_shut (nat_lt pace.waited most_paced) pace.origin p.ensures.pace.shut p.ensures.fast h)) none a.facts) in
    let l = c.args.self.now.listener in
    part_so g.V.Vault g.W.Wire.asked o o c.args.self.now.wire part.new.wire _ _
    (λ given calls was heard. (heard_on g.V.Vault g.L.Listener.heard o o l l c.on_link.new.self given c.on_link.ensures.heard heard.0, heard.1))
    (read_asked g.V.Vault g.W.Wire.asked g.L.Listener.heard o c.args.self.now.wire part.new.wire l seat links.wait lines may noted
    (PollsBy links.poll_now (links.poll_now || false)) a.calls a.was_asked
    (read_unread g.V.Vault links.wait lines may noted o seat a.calls
    (unwritten_look Holds o seat pace refusals part.result.count part.result.login a.calls a.facts) (looked_quiet Holds o seat pace refusals part.result.count part.result.login a.calls a.facts)
    (looked_served Holds o seat pace refusals part.result.count part.result.login a.calls a.facts) unread) (polled_quiet links.poll_now a.calls))

pub returns-then-not-read_once-clause-works : goal.returns-then-not-read_once-clause-works
returns-then-not-read_once-clause-works g c =
    let links = c.args.clients.now in
    let seat = c.args.seat in
    let part = c.next_part-part in
    let a = part.ensures.works in
    let p = c.pace_at-pace in
    let pace = p.result in
    let quiet = looked_quiet g.V.Vault.holds c.args.self.now.office seat pace links.guesses.refusals.items part.result.count part.result.login a.calls a.facts in
    let some : (part.result.count == 0) ≡ false = search rules in
    let line : pace.by_line ≡ true → reads_by_line links.wait (may_keep links) ≡ true = λ b. subst (λ w. reads_by_line w (may_keep links) ≡ true) p.ensures.pace.wait
    (line_so links.guesses.are_slow links.lock_released pace.is_shut pace.wait pace.origin p.ensures.pace.shut p.ensures.fast (p.ensures.lines b)) in
    read_after g.V.Vault g.W.Wire.asked g.L.Listener.heard
    c.args.self.now.office c.read_once.new.self.office c.args.self.now.wire part.new.wire c.read_once.new.self.wire c.args.self.now.listener c.read_once.new.self.listener seat links.wait
    (reads_by_line links.wait (may_keep links)) (may_at c.args.now links seat.connection)
    (lies_unread (newcomer seat.connection c.settle-2.new.self.newcomers.items)) pace links.guesses.refusals.items part.result.count part.result.login
    (PollsBy false c.read_once.result) (PollsBy links.poll_now (links.poll_now || false)) a.calls
    (λ cs m. polled_quiet links.poll_now (a.calls ++ cs)) quiet a.facts some line
    (not_unread seat.connection c.args.now links.newcomers.newcomers.items c.settle-2.new.self.newcomers.items
    (subst (λ b. c.settle-2.new.self.newcomers.items ≡ settled_in seat.connection b c.args.now links.newcomers.newcomers.items) some c.settle-2.ensures.newcomers)) a.was_asked
    (read_part g.V.Vault g.W.Wire.asked g.L.Listener.heard
    c.args.self.now.office c.read_once.new.self.office part.new.wire c.read_once.new.self.wire c.args.self.now.listener c.read_once.new.self.listener seat part.result.count _
    (PollsBy false c.read_once.result) c.read_once.ensures.works part.ensures.most)

pub returns-clause-works : goal.returns-clause-works
returns-clause-works g c =
    let links = c.args.clients.now in
    let came : c.read_once.result ≡ true = search rules in
    let seat = c.args.seat in
    let part = c.next_part-part in
    let a = part.ensures.works in
    let p = c.pace_at-pace in
    let pace = p.result in
    let quiet = looked_quiet g.V.Vault.holds c.args.self.now.office seat pace links.guesses.refusals.items part.result.count part.result.login a.calls a.facts in
    let some : (part.result.count == 0) ≡ false = search rules in
    let line : pace.by_line ≡ true → reads_by_line links.wait (may_keep links) ≡ true = λ b.
    subst (λ w. reads_by_line w (may_keep links) ≡ true) p.ensures.pace.wait
    (line_so links.guesses.are_slow links.lock_released pace.is_shut pace.wait pace.origin p.ensures.pace.shut p.ensures.fast (p.ensures.lines b)) in
    let poll_now = c.note_guess.new.clients.poll_now || true in
    read_after g.V.Vault g.W.Wire.asked g.L.Listener.heard
    c.args.self.now.office c.read_once.new.self.office c.args.self.now.wire part.new.wire c.read_once.new.self.wire c.args.self.now.listener c.read_once.new.self.listener seat links.wait
    (reads_by_line links.wait (may_keep links)) (may_at c.args.now links seat.connection)
    (lies_unread (newcomer seat.connection c.note_guess.new.clients.newcomers.newcomers.items)) pace links.guesses.refusals.items part.result.count part.result.login
    (PollsBy false c.read_once.result) (PollsBy links.poll_now poll_now) a.calls
    (λ cs m. polled_moved links.poll_now poll_now (a.calls ++ cs) (any_right is_moving a.calls cs (m came))) quiet a.facts some line
    (not_unread seat.connection c.args.now links.newcomers.newcomers.items c.note_guess.new.clients.newcomers.newcomers.items
    (ap (λ n. n.newcomers.items) c.note_guess.ensures.keeps.newcomers
    ∙ subst (λ b. c.settle-2.new.self.newcomers.items ≡ settled_in seat.connection b c.args.now links.newcomers.newcomers.items) some c.settle-2.ensures.newcomers)) a.was_asked
    (read_part g.V.Vault g.W.Wire.asked g.L.Listener.heard
    c.args.self.now.office c.read_once.new.self.office part.new.wire c.read_once.new.self.wire c.args.self.now.listener c.read_once.new.self.listener seat part.result.count _
    (PollsBy false c.read_once.result) c.read_once.ensures.works part.ensures.most)
