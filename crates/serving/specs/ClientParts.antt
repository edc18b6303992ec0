-- What the parts of a turn do for clients, each in one word that its contract cites: the moment,
-- links that come, what is written and read on one link and on all, and links that are closed.
use Rattle.std.specs.Prelude.{◌≡◌, ◌⊎◌, ◌≤◌, ◌<◌, ℕ, ◌+◌, Bool, true, false, ◌&&◌, ◌||◌, ◌==◌}
use Rattle.std.specs.Prelude.{List, [], ◌∷◌, ◌++◌, length, map, filter, filter_map, Option, None}
use Rattle.std.specs.Prelude.{if◌then◌else◌, nat_lt}
use Rattle.std.specs.List.{All, Contains, list_any, remove}
use Rattle.vault.specs.Records.{Records}
use Rattle.vault.specs.Changes.{Contents}
use Rattle.office.specs.Events.{Event, EventTag, Log, Trace}
use Rattle.office.specs.Events as event
use Rattle.office.specs.Trace.{is_ready, rest}
use Rattle.office.specs.Taken.{trace_of}
use Rattle.office.specs.Stands.{StandsFor, vault_of}
use Rattle.office.specs.declared.office.Office.{Office}
use Rattle.serving.specs.declared.wire.Port.TheVariants.{Pop}
use Rattle.serving.specs.declared.wire.Io.{Io}
use Rattle.serving.specs.declared.wire.Io.TheVariants.{Count}
use Rattle.serving.specs.Calls.{Call, Looked, Read, Wrote, Closed}
use Rattle.serving.specs.declared.links.Seat.{Seat}
use Rattle.serving.specs.declared.links.Clients.{Clients}
use Rattle.serving.specs.declared.newcomers.Newcomer.{Newcomer}
use Rattle.serving.specs.Settings.{Settings}
use Rattle.serving.specs.Newcomers.{newcomer, lies_unread, waited_of}
use Rattle.serving.specs.Paces.{is_held, first_line, part_by, most_paced}
use Rattle.serving.specs.declared.guesses.Refusal.{Refusal}
use Rattle.creds.specs.declared.login_name.LoginName.{LoginName}
use Rattle.serving.specs.declared.pace.Pace.{Pace}
use Rattle.office.specs.Logins.{login_brought}
use Rattle.office.specs.Quitting.{brings_long_quit}
use Rattle.serving.specs.Works.{waits, arrivals, closings, is_admin, is_read_of, is_later_of}
use Rattle.serving.specs.Works.{is_taking_of, octets_taken, most_writes, share_by, moments}
use Rattle.serving.specs.Works.{openings, refusals, IsKeptBack, reads_by_line}
use Rattle.serving.specs.Works.{IsReadByLine, LiesUnread, Came, seat_of, unseated_of, link_of}
use Rattle.serving.specs.Works.{HasAccepted, is_open_seat}
use Rattle.serving.specs.InOrder.{ServesSeat, ServesInOrder}
use Rattle.serving.specs.Quits.{AwaitsQuit, SomeAwaitsQuit}
use Rattle.serving.specs.Ways.{Way, way_by, HadTurn}
use Rattle.serving.specs.Works.{is_shut_seat, IsOffered}
use Rattle.serving.specs.Parts.{IsQuietFor}
use Rattle.serving.specs.Room.{GivesPlace, IsGoneOf, HaveRoom}
use Rattle.serving.specs.declared.wire.Link.{Link}
use Rattle.std.specs.declared.net.ip_addr.IpAddr.{IpAddr}

-- a write on a client's link
abbrev pub is_client_write : Call → Bool
is_client_write (Wrote Pop link offered io octets) = true
is_client_write _ = false

-- Each write on a client's link was offered all that was lent then, since any log for which the
-- office stood.
abbrev pub AreOffered : {V : Type 0} (Holds : V → Contents → Type 0) (IsClean : V → Type 0)
    (office office_then : Office V) (seats : List Seat) (given : Log) (calls : List Call) → Type 0
AreOffered Holds IsClean office office_then seats given calls =
    (B : Records) (L : Log) → StandsFor Holds office (trace_of B L) → IsClean (vault_of office_then)
    → All (IsOffered B L given seats) calls

-- if a seat's login is noted as lying unread, it does
abbrev pub IsNotedSo : (noted : List Newcomer) (B : Records) (older given : Log)
    (calls : List Call) (wait : ℕ) (may : ℕ → Bool) (seats : List Seat) → Seat → Type 0
IsNotedSo noted B older given calls wait may seats s =
    lies_unread (newcomer s.connection noted) ≡ true
    → LiesUnread B older given calls wait (may s.connection) seats s.connection

-- the moment was given, and these calls were made
pub record IsPassed (asked : List Call) (now : ℕ) (given : Log) (calls : List Call) : Type 0 where
  pub event_tag : EventTag
  pub given_is : given ≡ (event.Tick now, event_tag) ∷ []
  pub calls_are : calls ≡ asked

-- These links came, each with an opening: those whose opening was done got the next seats, and the
-- others were closed. Right before it that connection went whose place it got, if one did.
pub record HaveCome {V : Type 0} (Holds : V → Contents → Type 0) (IsClean : V → Type 0)
    (office office_then : Office V) (make_room : Bool) (seats seats_then : List Seat) (came : List Came)
    (given : Log) (calls : List Call) : Type 0 where
  pub no_moments : moments given ≡ []
  pub no_waits : waits calls ≡ []
  pub arrived : arrivals calls ≡ map link_of came
  pub opened : openings given ≡ length came
  pub refused : (T : Trace) → StandsFor Holds office T → IsClean (vault_of office_then) → refusals given ≡ length (filter_map unseated_of came)
  pub closed : closings calls ≡ filter_map unseated_of came
  pub seated : seats_then ≡ seats ++ filter_map seat_of came
  pub apart : list_any is_admin calls ≡ false
  pub unwritten : list_any is_client_write calls ≡ false
  pub room : (B : Records) (L : Log) → StandsFor Holds office (trace_of B L)
      → IsClean (vault_of office_then) → HaveRoom make_room B L seats came given

pub record AreAccepted {V : Type 0} (Holds : V → Contents → Type 0) (IsClean : V → Type 0)
    (office office_then : Office V) (make_room : Bool) (seats seats_then : List Seat) (most : ℕ)
    (has_more : Bool) (given : Log) (calls : List Call) : Type 0 where
  pub came : List Came
  pub come : HaveCome Holds IsClean office office_then make_room seats seats_then came given calls
  pub enough : has_more ≡ true → most ≤ length came
  pub few : length came ≤ most
  pub all : has_more ≡ false → HasAccepted (length seats_then) calls

-- The connection went whose place a newcomer gets, or none went.
pub record HasMadeRoom {V : Type 0} (Holds : V → Contents → Type 0) (office : Office V)
    (make_room : Bool) (addresses : Link → Option IpAddr) (seats : List Seat) (given : Log)
    : Type 0 where
  pub who : Option Seat
  pub gives : (T : Trace) → StandsFor Holds office T → GivesPlace make_room T addresses seats who
  pub gone : IsGoneOf who given

-- nothing is owed to a connection by then
abbrev pub OwesNothing : {V : Type 0} (Holds : V → Contents → Type 0) (IsClean : V → Type 0) (office office_then : Office V) (c : ℕ) (given : Log) → Type 0
OwesNothing Holds IsClean office office_then c given =
    (B : Records) (L : Log) → StandsFor Holds office (trace_of B L) → IsClean (vault_of office_then) → rest (trace_of B (given ++ L)) c ≡ []

-- A link was written on so many times and no more than `most`, so many octets; and it takes no more for now, or nothing more is owed, if that is over.
pub record IsWritten {V : Type 0} (Holds : V → Contents → Type 0) (IsClean : V → Type 0) (office office_then : Office V) (seat : Seat) (times most octets : ℕ) (has_more : Bool)
    (given : Log) (calls : List Call) : Type 0 where
  pub of_seat : IsQuietFor (seat ∷ []) given calls
  pub served : ServesSeat seat 0 most given calls
  pub taken : times ≤ length (filter (is_taking_of seat.link) calls)
  pub octets_are : octets ≤ octets_taken seat.link calls
  pub offered : AreOffered Holds IsClean office office_then (seat ∷ []) given calls
  pub ends : has_more ≡ false → (list_any (is_later_of seat.link) calls ≡ true) ⊎ OwesNothing Holds IsClean office office_then seat.connection given

-- A link was written its share, or as often as it may be, if it goes on; or it takes no more for now, or nothing more is owed.
pub record IsWrittenOut {V : Type 0} (Holds : V → Contents → Type 0) (IsClean : V → Type 0) (office office_then : Office V) (seat : Seat) (share : ℕ) (has_more : Bool)
    (given : Log) (calls : List Call) : Type 0 where
  pub of_seat : IsQuietFor (seat ∷ []) given calls
  pub offered : AreOffered Holds IsClean office office_then (seat ∷ []) given calls
  pub served : ServesSeat seat 0 most_writes given calls
  pub goes_on : has_more ≡ true → (most_writes ≤ length (filter (is_taking_of seat.link) calls)) ⊎ (share ≤ octets_taken seat.link calls)
  pub ends : has_more ≡ false → (list_any (is_later_of seat.link) calls ≡ true) ⊎ OwesNothing Holds IsClean office office_then seat.connection given

-- no octets may come on a connection
abbrev pub IsNotReady : {V : Type 0} (Holds : V → Contents → Type 0) (office : Office V) (c : ℕ) → Type 0
IsNotReady Holds office c = (B : Records) (L : Log) → StandsFor Holds office (trace_of B L) → is_ready (trace_of B L) c ≡ false

-- a link showed a piece that is kept back
pub record IsUnread {V : Type 0} (Holds : V → Contents → Type 0) (office : Office V) (seat : Seat) (wait : ℕ) (may : Bool) (calls : List Call) : Type 0 where
  pub piece : List ℕ
  pub io : Io
  pub shown : Contains calls (Looked Pop seat.link io piece)
  pub kept : (B : Records) (L : Log) → StandsFor Holds office (trace_of B L) → IsKeptBack (trace_of B L) seat.connection piece wait may

-- octets came
abbrev pub is_count : Io → Bool
is_count (Count n) = true
is_count _ = false

-- how what comes on a link is read at a moment, by what serving holds
pub record IsPaceAt (links : Clients) (c now : ℕ) (pace : Pace) : Type 0 where
  pub wait : pace.wait ≡ links.wait
  pub shut : pace.is_shut ≡ links.lock_released
  pub moment : pace.now ≡ now
  pub waited : pace.waited ≡ waited_of now (newcomer c links.newcomers.newcomers.items)

-- What comes next on a link was looked at, if lines are read one at a time, and so many octets
-- are to be read: as many as there is room for, or a part of the piece that was shown, whose next
-- line would log in somebody.
pub data HasLooked {V : Type 0} (Holds : V → Contents → Type 0) (office : Office V) (seat : Seat)
    (pace : Pace) (refusals : List Refusal)
    : (count : ℕ) → (login : Option LoginName) → List Call → Type 0 where
  Unlooked : pace.by_line ≡ false → HasLooked Holds office seat pace refusals 4096 None []
  NothingCame : (io : Io) → is_count io ≡ false
      → HasLooked Holds office seat pace refusals 4096 None (Looked Pop seat.link io [] ∷ [])
  PieceCame : (n : ℕ) (piece : List ℕ) (count : ℕ) (login : Option LoginName)
      → pace.by_line ≡ true → 0 < length piece
      → ((T : Trace) → StandsFor Holds office T
      → count ≡ part_by (is_held T seat.connection piece pace refusals) piece)
      → ((T : Trace) → StandsFor Holds office T
      → login ≡ login_brought T seat.connection piece)
      → ((count == 0) ≡ false → count ≡ first_line piece)
      → HasLooked Holds office seat pace refusals count login
      (Looked Pop seat.link (Count n) piece ∷ [])

-- It was looked whether a link's next line is a QUIT that stays unread, or nothing was looked at.
pub data HasLookedForQuit {V : Type 0} (Holds : V → Contents → Type 0) (office : Office V)
    (seat : Seat) : (kept : Bool) → Log → List Call → Type 0 where
  NotLooked : HasLookedForQuit Holds office seat false [] []
  NotKept : (io : Io) (piece : List ℕ)
      → HasLookedForQuit Holds office seat false [] (Looked Pop seat.link io piece ∷ [])
  QuitKept : (io : Io) (piece : List ℕ)
      → ((T : Trace) → StandsFor Holds office T → brings_long_quit T seat.connection piece ≡ true)
      → HasLookedForQuit Holds office seat true [] (Looked Pop seat.link io piece ∷ [])

-- A link was read from once, so many octets at most, if its connection waits for them.
pub data IsReadOnce {V : Type 0} (Holds : V → Contents → Type 0) (office : Office V) (seat : Seat)
    (room : ℕ) : Log → List Call → Type 0 where
  NotReady : IsNotReady Holds office seat.connection → IsReadOnce Holds office seat room [] []
  WasRead : (io : Io) (octets : List ℕ) (given : Log)
      → IsQuietFor (seat ∷ []) given (Read Pop seat.link room io octets ∷ [])
      → ServesSeat seat 1 0 given (Read Pop seat.link room io octets ∷ [])
      → IsReadOnce Holds office seat room given (Read Pop seat.link room io octets ∷ [])

-- A link was read from, if its connection waits for octets and nothing is kept back. If its login
-- is noted as lying unread, it does.
pub record IsReadPiece {V : Type 0} (Holds : V → Contents → Type 0) (office : Office V) (seat : Seat)
    (wait : ℕ) (by_line may is_noted : Bool) (given : Log) (calls : List Call) : Type 0 where
  pub of_seat : IsQuietFor (seat ∷ []) given calls
  pub read : (list_any (is_read_of seat.link) calls ≡ true)
      ⊎ (IsReadByLine calls by_line seat ⊎ ((given ≡ [])
      × (IsNotReady Holds office seat.connection ⊎ IsUnread Holds office seat wait may calls)))
  pub noted : is_noted ≡ true → IsUnread Holds office seat wait may calls
  pub served : ServesSeat seat 1 0 given calls
  pub unwritten : list_any is_client_write calls ≡ false

-- logins may be kept back: after refusals, if guesses are slow, or after a session that ended
-- in this turn
abbrev pub may_keep : Clients → Bool
may_keep links = links.guesses.are_slow || links.lock_released

-- that of a connection may: after refusals only while it has lain unread for less than 15 seconds
abbrev pub may_at : (now : ℕ) → Clients → (c : ℕ) → Bool
may_at now links c = links.lock_released || (links.guesses.are_slow
    && nat_lt (waited_of now (newcomer c links.newcomers.newcomers.items)) most_paced)

abbrev pub way_at : (now : ℕ) → Clients → (is_preparing poll_now : Bool) → Way
way_at now links is_preparing poll_now = record {
  share = share_by (length links.seats.items);
  wait = links.wait;
  by_line = reads_by_line links.wait (may_keep links);
  may = may_at now links;
  is_preparing = is_preparing;
  poll_now = poll_now;
}

-- the links of these seats had their turns, and whose login is noted as lying unread has it so
pub record HadTurns {V : Type 0} (Holds : V → Contents → Type 0) (IsClean : V → Type 0)
    (office office_then : Office V) (way : Way) (noted : List Newcomer) (seats these : List Seat)
    (given : Log) (calls : List Call) : Type 0 where
  pub of_seats : IsQuietFor seats given calls
  pub offered : AreOffered Holds IsClean office office_then seats given calls
  pub turns : (B : Records) (L : Log) → StandsFor Holds office (trace_of B L)
      → IsClean (vault_of office_then)
      → All (HadTurn way B L given (trace_of B (given ++ L)) calls) these
  pub noted_so : (B : Records) (L : Log) → StandsFor Holds office (trace_of B L)
      → IsClean (vault_of office_then)
      → All (IsNotedSo noted B L given calls way.wait way.may seats) these

-- The link of one seat had its turn, by events and calls of its own. If some link stays unread for
-- a QUIT, one did before, or this one does.
pub record HadOwnTurn {V : Type 0} (Holds : V → Contents → Type 0) (IsClean : V → Type 0)
    (office office_then : Office V) (way : Way) (was_preparing : Bool) (noted : List Newcomer)
    (seat : Seat) (given : Log) (calls : List Call) : Type 0 where
  pub turns : HadTurns Holds IsClean office office_then way noted (seat ∷ []) (seat ∷ []) given calls
  pub served : ServesSeat seat 1 (most_writes + most_writes) given calls
  pub awaits : way.is_preparing ≡ true → (was_preparing ≡ true)
      ⊎ ((B : Records) (L : Log) → StandsFor Holds office (trace_of B L)
      → IsClean (vault_of office_then) → AwaitsQuit B L given calls seat)

-- the links of these seats had their turns, by these settings, one after the other
pub record WereServed {V : Type 0} (Holds : V → Contents → Type 0) (IsClean : V → Type 0)
    (office office_then : Office V) (set : Settings) (now : ℕ) (newcomers : List Newcomer)
    (lock_released is_preparing poll_now : Bool) (noted : List Newcomer) (seats these : List Seat)
    (given : Log) (calls : List Call) : Type 0 where
  pub turns : HadTurns Holds IsClean office office_then
      (way_by set now newcomers seats lock_released is_preparing poll_now) noted seats these given calls
  pub in_order : (B : Records) (L : Log) → StandsFor Holds office (trace_of B L)
      → IsClean (vault_of office_then)
      → ServesInOrder set.wait B L these given calls lock_released
  pub awaits : is_preparing ≡ true → (B : Records) (L : Log) → StandsFor Holds office (trace_of B L)
      → IsClean (vault_of office_then) → SomeAwaitsQuit B L given calls these

abbrev pub closing : Seat → Call
closing s = Closed Pop s.link

-- exactly the links of those seats are closed whose connections aren't open
pub record AreClosed (T : Trace) (seats seats_then : List Seat) (calls : List Call) : Type 0 where
  pub calls_are : calls ≡ map closing (filter (is_shut_seat T) seats)
  pub left : seats_then ≡ filter (is_open_seat T) seats

-- exactly this seat's link is closed, if its connection isn't open
pub record IsClosed (T : Trace) (seats seats_then : List Seat) (place : ℕ) (seat : Seat) (stays : Bool) (calls : List Call) : Type 0 where
  pub stays_if : stays ≡ is_open_seat T seat
  pub left : seats_then ≡ (if stays then seats else remove seats place)
  pub calls_are : calls ≡ (if stays then [] else closing seat ∷ [])
