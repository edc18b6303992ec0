-- What one turn of the loop does: a record for each numbered sentence of docs/ARCHITECTURE.md, "One
-- turn of the loop", in its order, and `Works`, which has them all. What is seen of a turn is in
-- specs/Seen; proofs/TurnRows works one turn out.
use Rattle.std.specs.Prelude.{◌≡◌, ◌⊎◌, ◌≤◌, ℕ, Bool, true, false, ◌==◌, ◌||◌, List, [], ◌∷◌}
use Rattle.std.specs.Prelude.{◌++◌}
use Rattle.std.specs.Prelude.{length, map, filter, filter_map, Some, if◌then◌else◌}
use Rattle.std.specs.List.{All, list_all, list_any}
use Rattle.vault.specs.Calls.{has_grown}
use Rattle.vault.specs.declared.vault.Vault.{Ghosts}
use Rattle.office.specs.Events.{EventTag, Trace}
use Rattle.office.specs.Events as event
use Rattle.office.specs.Trace.{is_open}
use Rattle.office.specs.Taken.{trace_of}
use Rattle.office.specs.Stands.{StandsFor, vault_of}
use Rattle.office.specs.declared.office.Office.{Office}
use Rattle.serving.specs.Calls.{Call, Waited, waits, arrivals, closings, is_admin, has_moved}
use Rattle.serving.specs.Calls.{WasAsked}
use Rattle.serving.specs.Given.{moments, openings, refusals, is_failed, AreNewlyAdmitted}
use Rattle.serving.specs.Given.{AreDeposits, AreLateGone}
use Rattle.serving.specs.Hearing.{Hearing, HasHeard, hearings}
use Rattle.serving.specs.HttpWorks.{HasAcceptedForAdmin, HadHttpTurns}
use Rattle.serving.specs.InOrder.{ServesInOrder}
use Rattle.serving.specs.KeptBack.{reads_by_line, IsHeldBack}
use Rattle.serving.specs.Late.{noted_by, LoggedIn, IsInTime, IsNotedSince, IsCountedOn}
use Rattle.serving.specs.Newcomers.{newcomer, AllHaveSeats, IsSettled}
use Rattle.serving.specs.Room.{HaveRoom}
use Rattle.serving.specs.Quits.{AwaitsQuit, SomeAwaitsQuit}
use Rattle.serving.specs.Seen.{Seen, before_commands, before_deposits, given_in, calls_in}
use Rattle.serving.specs.Seen.{trace_after, may_keep}
use Rattle.serving.specs.Settings.{settings, last_tried}
use Rattle.serving.specs.SpoolTurns.{IsSpoolTurn, has_dealt}
use Rattle.serving.specs.Spools.{FileCall}
use Rattle.serving.specs.Stopping.{is_answered, StopLeavesAfter}
use Rattle.serving.specs.Works.{seat_of, unseated_of, link_of, HasAccepted, most_links, share_by}
use Rattle.serving.specs.Works.{had_its_turn, IsOffered, AreCaused, is_open_seat}
use Rattle.serving.specs.Works.{is_shut_seat, link_of_seat}
use Rattle.serving.specs.declared.links.Seat.{Seat}
use Rattle.serving.specs.declared.links.Links.{Links}
use Rattle.serving.specs.declared.newcomers.Newcomer.{Newcomer}

-- how long a turn waits: not at all if more can be done at once, otherwise a second at most
abbrev pub millis_of : Links → ℕ
millis_of links = if links.clients.poll_now || links.requests.poll_now then 0 else 1000

module _ (T : Trace) (now : ℕ) (links links_then : Links) (t : Seen) where
  -- 1. It waits once, before it does anything else.
  pub record Waits : Type 0 where
    pub first : t.wait ≡ Waited (millis_of links) ∷ []
    pub once : waits (calls_in t) ≡ millis_of links ∷ []

  -- 2. It sends the office a Tick of this moment once, before any other event.
  pub record Ticks : Type 0 where
    pub event_tag : EventTag
    pub first : t.tick ≡ (event.Tick now, event_tag) ∷ []
    pub once : moments (given_in t) ≡ now ∷ []

  -- 3. It accepts clients' links until the wire gives none, 64 came, or all places are taken. For
  -- each it asks for an opening; as many are refused as links get no seat, and the others get the
  -- next seats. Right before an opening the connection is Gone whose place the newcomer gets, if one
  -- is to make room (specs/Room); no other event is given. It accepts links of the administration
  -- until the wire gives none, or 64 came.
  pub record Accepts : Type 0 where
    pub enough : HasAccepted (length t.seats) (calls_in t) ⊎ (most_links ≤ length t.came)
    pub few : length t.came ≤ most_links
    pub arrived : arrivals (calls_in t) ≡ map link_of t.came
    pub opened : openings (given_in t) ≡ length t.came
    pub refused : refusals (given_in t) ≡ length (filter_map unseated_of t.came)
    pub room : HaveRoom (settings links).make_room T.base (t.tick ++ T.log)
        links.clients.seats.items t.came t.connects
    pub seated : t.seats ≡ links.clients.seats.items ++ filter_map seat_of t.came
    pub has_more : Bool
    pub admin : HasAcceptedForAdmin now 64 has_more links.requests.exchanges.items t.held
        t.admin_accepts

  -- The wire was asked to read from a link (which may give nothing), or a write on it took no more
  -- for now, or it took its share or 64 writes (then the next turn doesn't wait); or it is kept
  -- back for a cause (specs/KeptBack), or for a QUIT that the store prepares (specs/Quits). So it
  -- is if its connection is open as the turn ends.
  abbrev pub HadItsTurn : Seat → Type 0
  HadItsTurn s = is_open (trace_after T t) s.connection ≡ true
      → (had_its_turn (share_by (length t.seats)) (millis_of links_then == 0) s.link (calls_in t)
      ≡ true)
      ⊎ (IsHeldBack T.base T.log (given_in t) (calls_in t) links.clients.wait
      (reads_by_line links.clients.wait ((settings links).slow_guesses || t.lock_released))
      (may_keep now links t s.connection) s
      ⊎ ((t.is_preparing ≡ true) × AwaitsQuit T.base T.log (given_in t) (calls_in t) s))

  -- 4. It serves each client's link, in the order of the seats. Each write is offered all that its
  -- connection is owed, or the first 16,384 octets of it. Exactly if logins wait for locks and a
  -- session ended as its link was served, `lock_released`, and further logins are kept back. If
  -- `is_preparing`, some client's link stays unread for its QUIT. A connection is Gone only if its
  -- link broke or ended (that it is Gone then: `over` of specs/Served).
  pub record ServesClients : Type 0 where
    pub turns : All HadItsTurn t.seats
    pub offered : All (IsOffered T.base T.log (given_in t) t.seats) (calls_in t)
    pub in_order : ServesInOrder links.clients.wait T.base ((t.connects ++ t.tick) ++ T.log)
        t.seats t.served t.serves t.lock_released
    pub awaits : t.is_preparing ≡ true
        → SomeAwaitsQuit T.base T.log (given_in t) (calls_in t) t.seats
    pub caused : AreCaused t.seats (calls_in t) (t.commands ++ t.served)

  -- 5. It serves each link of the administration, one after the other, and makes no other call on
  -- one but as it accepts them.
  pub record ServesAdmin : Type 0 where
    pub served : HadHttpTurns links.site now T.base (before_commands t ++ T.log) t.held
        links_then.requests.exchanges.items t.commands t.admin_serves
    pub apart : list_any is_admin ((t.wait ++ t.accepts) ++ (t.serves ++ t.closes)) ≡ false

  -- 5. It gives a Gone to clients past their login seconds.
  pub record EndsLate : Type 0 where
    -- Each Gone is of a client that is late.
    pub gone : AreLateGone now (settings links).login_seconds (noted_by links) t.late
    -- Whoever is late isn't open as the turn ends, or logged in, or its login was put off.
    pub timely : All (IsInTime T now links links_then t) t.seats
    -- Nobody is forgotten whose connection is open and who didn't log in, and as many of its
    -- seconds are over as before.
    pub noted : (c : ℕ) (n : Newcomer) → newcomer c (noted_by links) ≡ Some n
        → is_open (trace_after T t) c ≡ true
        → IsSettled now (Some n) (newcomer c (noted_by links_then))
        ⊎ LoggedIn T now links links_then t c
    -- Each that came and got a seat is noted, and its seconds count from this moment.
    pub newly : AllHaveSeats links → All (IsNotedSince T now links links_then t)
        (filter_map seat_of t.came)
    -- Nobody's seconds stand still but while its login is put off.
    pub counts : All (IsCountedOn T now links links_then t) t.seats

  -- 5. Beside those that got no seat, it closes the clients' links whose connections aren't open as
  -- the turn ends, and no others; the other seats stay.
  pub record Closes : Type 0 where
    pub closed : closings (calls_in t) ≡ filter_map unseated_of t.came
        ++ map link_of_seat (filter (is_shut_seat (trace_after T t)) t.seats)
    pub left : links_then.clients.seats.items ≡ filter (is_open_seat (trace_after T t)) t.seats

  -- 6. It tries one spool file.
  pub record TriesFile : Type 0 where
    pub deposits : AreDeposits t.deposits
    pub tries : IsSpoolTurn (last_tried links) (last_tried links_then)
        (trace_of T.base (before_deposits t ++ T.log)) t.deposits t.file_calls

  -- The next turn doesn't wait after a file that was removed or renamed; nor if `lock_released` or
  -- `is_preparing`; nor, if logins wait for locks, if a link was closed; nor after a whole share
  -- (4). It waits a second at most if nothing moved, no lock was released, no QUIT is prepared and
  -- no file was removed or renamed. Otherwise either is allowed.
  pub record NextWaits : Type 0 where
    pub dealt : has_dealt t.file_calls ≡ true → millis_of links_then ≡ 0
    pub after_release : t.lock_released ≡ true → millis_of links_then ≡ 0
    pub while_preparing : t.is_preparing ≡ true → millis_of links_then ≡ 0
    pub after_closing : (links.clients.wait == 0) ≡ false
        → list_any (is_shut_seat (trace_after T t)) t.seats ≡ true → millis_of links_then ≡ 0
    pub rests : has_moved (calls_in t) ≡ false → t.lock_released ≡ false
        → t.is_preparing ≡ false → has_dealt t.file_calls ≡ false → millis_of links_then ≡ 1000

-- So it is of an office, a wire, a spool and a listener, since each trace: the office stands for
-- that trace with the turn's events, each of which has a tag that it may have; the store's count of
-- faults never falls, and an event failed only if it grew; no other call was made, and nothing else
-- was heard.
pub record Works {V W S H : Type 0} (vault : Ghosts V)
    (Asked : W → List Call → Type 0) (AskedFiles : S → List FileCall → Type 0)
    (Heard : H → List Hearing → Type 0) (T : Trace) (now : ℕ)
    (links : Links) (office : Office V) (wire : W) (spool : S) (listener : H)
    (office_then : Office V) (links_then : Links) (wire_then : W) (spool_then : S)
    (listener_then : H) : Type 0 where
  pub seen : Seen
  pub stands : StandsFor vault.holds office_then (trace_after T seen)
  pub admitted : AreNewlyAdmitted T.base T.log (given_in seen)
  pub counted : vault.faults (vault_of office) ≤ vault.faults (vault_of office_then)
  pub failed : list_any is_failed (given_in seen) ≡ true
      → has_grown (vault.faults (vault_of office)) (vault.faults (vault_of office_then)) ≡ true
  -- a store's device that was up is up, unless an event failed or wanted memory; and what a stop in
  -- the last event leaves, if all before it were answered
  pub up : vault.is_up (vault_of office) → list_all is_answered (given_in seen) ≡ true
      → vault.is_up (vault_of office_then)
  pub stop : vault.is_up (vault_of office)
      → StopLeavesAfter (vault.may_leave (vault_of office_then)) T.base T.log (given_in seen)
  pub asked : WasAsked Asked wire wire_then (calls_in seen)
  pub asked_files : (before : List FileCall) → AskedFiles spool before
      → AskedFiles spool_then (before ++ seen.file_calls)
  pub heard : HasHeard Heard listener listener_then (hearings T links seen)
  -- the numbered sentences
  pub waits : Waits T now links links_then seen
  pub ticks : Ticks T now links links_then seen
  pub accepts : Accepts T now links links_then seen
  pub clients : ServesClients T now links links_then seen
  pub admin : ServesAdmin T now links links_then seen
  pub late : EndsLate T now links links_then seen
  pub closes : Closes T now links links_then seen
  pub file : TriesFile T now links links_then seen
  -- and what the next turn waits
  pub next : NextWaits T now links links_then seen
