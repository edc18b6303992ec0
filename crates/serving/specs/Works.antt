-- The words of a turn's work for its clients: which links come, when a link had its turn, what is
-- offered to it, and why a connection goes. Which sessions end is in specs/InOrder, why a link
-- stays unread in specs/KeptBack, what is seen of calls in specs/Calls, and of events in
-- specs/Given; specs/Turns puts all together.
use Rattle.std.specs.Prelude.{◌≡◌, ◌⊎◌, ⊤, ℕ, Bool, true, not, ◌&&◌, ◌||◌, nat_le, min}
use Rattle.std.specs.Prelude.{if◌then◌else◌, List, ◌++◌, length, filter, Option, Some, None}
use Rattle.std.specs.List.{All, Contains, list_any}
use Rattle.vault.specs.Records.{Records}
use Rattle.office.specs.Events.{Event, EventTag, Log, Trace}
use Rattle.office.specs.Events as event
use Rattle.office.specs.Trace.{is_open, rest, most_lent}
use Rattle.office.specs.Taken.{trace_of}
pub use Rattle.serving.specs.Calls.{wait_of, waits, arrival_of, arrivals, tells_none, none_waited}
pub use Rattle.serving.specs.Calls.{closing_of, closings, is_admin, most_at_once, is_read_of}
pub use Rattle.serving.specs.Calls.{is_later_of, is_taking_of, is_cut_of, is_cut, count_taken}
pub use Rattle.serving.specs.Calls.{octets_taken, is_moving, has_moved, WasAsked}
pub use Rattle.serving.specs.Given.{moment_of, moments, is_opening, openings, is_refusal, refusals}
pub use Rattle.serving.specs.Given.{is_failed, AreNewlyAdmitted, AreDeposits, IsLateGone}
pub use Rattle.serving.specs.Given.{AreLateGone}
pub use Rattle.serving.specs.KeptBack.{is_shared, may_by, IsKeptBack, StaysUnread, LiesUnread}
pub use Rattle.serving.specs.KeptBack.{reads_by_line, IsReadByLine, IsHeldBack}
pub use Rattle.serving.specs.Newcomers.{is_late}
use Rattle.serving.specs.Calls.{Call, Wrote}
use Rattle.serving.specs.declared.wire.Link.{Link}
use Rattle.serving.specs.declared.wire.Port.TheVariants.{Pop}
use Rattle.serving.specs.declared.links.Seat.{Seat}

-- ---- links that come

-- a client's link that came: it got a seat, or was turned away
pub data Came : Type 0 where
  Seated : Seat → Came
  TurnedAway : Link → Came

abbrev pub seat_of : Came → Option Seat
seat_of (Seated s) = Some s
seat_of (TurnedAway link) = None

abbrev pub unseated_of : Came → Option Link
unseated_of (Seated s) = None
unseated_of (TurnedAway link) = Some link

abbrev pub link_of : Came → Link
link_of (Seated s) = s.link
link_of (TurnedAway link) = link

-- how many links are accepted at a port in one turn, and how many connections may be open
abbrev pub most_links : ℕ
most_links = 64

abbrev pub places : ℕ
places = 128

-- links are accepted until the wire gives none, or all places are taken
abbrev pub HasAccepted : (places_taken : ℕ) → List Call → Type 0
HasAccepted taken calls = (none_waited calls ≡ true) ⊎ (taken ≡ places)

-- ---- seats

abbrev pub is_open_seat : Trace → Seat → Bool
is_open_seat T s = is_open T s.connection

abbrev pub is_shut_seat : Trace → Seat → Bool
is_shut_seat T s = not (is_open T s.connection)

abbrev pub link_of_seat : Seat → Link
link_of_seat s = s.link

-- ---- when a link had its turn

-- how many writes a link has in one turn at most
abbrev pub most_writes : ℕ
most_writes = 64

-- one full write
abbrev pub share_among_others : ℕ
share_among_others = 16384

-- how many octets are written on a link in one turn, and then no more: many if it is alone, and one
-- full write if others are open
abbrev pub share_by : (links : ℕ) → ℕ
share_by links = if nat_le links 1 then 1048576 else share_among_others

-- so many writes were made on a client's link, or its share was written
abbrev pub is_written_out : (share : ℕ) → Link → List Call → Bool
is_written_out share link calls = nat_le most_writes (length (filter (is_taking_of link) calls))
    || nat_le share (octets_taken link calls)

-- it had its turn: it was read from, or it took nothing more for now, or it was written out, and
-- then the next turn doesn't wait
abbrev pub had_its_turn : (share : ℕ) (poll_now : Bool) → Link → List Call → Bool
had_its_turn share poll_now link calls =
    (list_any (is_read_of link) calls || list_any (is_later_of link) calls)
    || (poll_now && is_written_out share link calls)

-- ---- what is offered to a link

-- A write on the link of one of these seats was offered so many octets: all that its connection was
-- owed after some of these events, or the first 16,384 of them.
pub record WasLent (B : Records) (older given : Log) (seats : List Seat) (link : Link)
    (offered : ℕ) : Type 0 where
  pub seat : Seat
  pub among : Contains seats seat
  pub is : seat.link ≡ link
  pub later : Log
  pub front : Log
  pub given_are : given ≡ later ++ front
  pub lent : offered ≡ min (length (rest (trace_of B (front ++ older)) seat.connection)) most_lent

-- so it is of each write on a client's link
abbrev pub IsOffered : (B : Records) (older given : Log) (seats : List Seat) → Call → Type 0
IsOffered B older given seats (Wrote Pop link offered io octets) =
    WasLent B older given seats link offered
IsOffered B older given seats _ = ⊤

-- ---- why a connection goes

-- Its link gave its end or is broken; and nothing starts anew.
abbrev pub HasCause : List Seat → List Call → Event × EventTag → Type 0
HasCause seats calls (event.Gone c, m) =
    (s : Seat) × Contains seats s × (s.connection ≡ c) × (is_cut s.link calls ≡ true)
HasCause seats calls (event.Restart boot, m) = ⊥
HasCause seats calls (event.Start host boot idle, m) = ⊥
HasCause seats calls _ = ⊤

abbrev pub AreCaused : List Seat → List Call → Log → Type 0
AreCaused seats calls given = All (HasCause seats calls) given
