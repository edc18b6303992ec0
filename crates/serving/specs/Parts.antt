-- What a part of a turn does, and what it keeps, in one word each. `Does`: the events that it gave,
-- the calls that it made, and what the listener heard of them. `KeepsServing`: that the server still
-- serves. `Keeps`: what every part leaves as it was; with the seats it is `KeepsSeats`. Then what one kind of part does to what serving holds
-- between turns: it notes refused logins (`NotesGuesses`), serves a client (`ReleasesLock`), ends late
-- clients (`Ends`, `IsEnded`), closes links (`Closes`, `ClosesSeat`), or gives seats to those that
-- came (`AreNoted`). Two parts compose: `part_then` of proofs/Working, `keeps_then` of
-- proofs/Composing, and the others there.
use Rattle.std.specs.Prelude.{◌≡◌, ◌⊎◌, ◌≤◌, ℕ, Bool, true, false, ◌||◌, ◌==◌, List, [], ◌∷◌, ◌++◌}
use Rattle.std.specs.Prelude.{Some, if◌then◌else◌, slice_index_or}
use Rattle.std.specs.List.{All, Contains, list_any}
use Rattle.vault.specs.Records.{Records}
use Rattle.vault.specs.Calls.{has_grown}
use Rattle.vault.specs.Changes.{Contents}
use Rattle.vault.specs.declared.vault.Vault.{Ghosts}
use Rattle.office.specs.Events.{EventTag, Log, Trace}
use Rattle.office.specs.Events as event
use Rattle.office.specs.Trace.{history, is_open}
use Rattle.office.specs.Sessions.{live}
use Rattle.office.specs.Taken.{trace_of}
use Rattle.office.specs.Stands.{StandsFor, vault_of}
use Rattle.office.specs.declared.office.Office.{Office}
use Rattle.serving.specs.Calls.{Call}
use Rattle.serving.specs.declared.server.Server.{Server}
use Rattle.serving.specs.declared.wire.Wire as the_wire
use Rattle.serving.specs.declared.listener.Listener as the_listener
use Rattle.serving.specs.declared.links.Seat.{Seat}
use Rattle.serving.specs.declared.links.Clients.{Clients}
use Rattle.serving.specs.declared.newcomers.Newcomer.{Newcomer}
use Rattle.serving.specs.Guesses.{ArePacing}
use Rattle.serving.specs.Settings.{settings_of}
use Rattle.serving.specs.Newcomers.{newcomer, others, AreSeatedAt, AreNotedNow, IsNewlyNoted}
use Rattle.serving.specs.Paces.{releases_lock}
use Rattle.serving.specs.Works.{is_late, waits, arrivals, closings, is_admin}
use Rattle.serving.specs.Works.{has_moved, moments, openings, refusals, is_failed, AreNewlyAdmitted}
use Rattle.serving.specs.Works.{AreCaused, WasAsked}
use Rattle.serving.specs.Hearing.{Hearing, HasHeard, WithHeard, ends_by}
use Rattle.office.specs.declared.account.End.TheVariants as end
use Rattle.serving.specs.Served.{Precedes, StillServes}
use Rattle.serving.specs.Late.{IsShutBy}
use Rattle.serving.specs.Stopping.{Outlasts}

-- ---- what it gives and asks

-- these calls set it, so that the next turn doesn't wait, only if something moved
abbrev pub PollsBy : (polled polled_then : Bool) → List Call → Type 0
PollsBy polled polled_then calls =
    polled_then ≡ true → (polled || has_moved calls) ≡ true

-- it doesn't wait if these calls moved something, if logins wait for locks
abbrev pub PollsAfterClosing : (wait : ℕ) (poll_now : Bool) → List Call → Type 0
PollsAfterClosing wait poll_now calls = (wait == 0) ≡ false → has_moved calls ≡ true → poll_now ≡ true

-- of the calls of a part this holds too
abbrev pub Also : (Log → List Call → Type 0) → (List Call → Type 0) → Log → List Call
    → Type 0
Also Facts More given calls = Facts given calls × More calls

-- whoever is late was so before
abbrev pub AreNoMoreLate : (now seconds : ℕ) → (newcomers newcomers_then : List Newcomer) → Type 0
AreNoMoreLate now seconds newcomers newcomers_then = (c : ℕ)
    → is_late now seconds newcomers_then c ≡ true → is_late now seconds newcomers c ≡ true

pub record WasGiven {V : Type 0} (vault : Ghosts V) (office office_then : Office V) (given : Log) : Type 0 where
  pub clean : vault.is_clean (vault_of office_then) → vault.is_clean (vault_of office)
  pub stands : (B : Records) (L : Log) → StandsFor vault.holds office (trace_of B L) → vault.is_clean (vault_of office_then) → StandsFor vault.holds office_then (trace_of B (given ++ L))
  pub admitted : (B : Records) (L : Log) → StandsFor vault.holds office (trace_of B L) → vault.is_clean (vault_of office_then) → AreNewlyAdmitted B L given
  -- the count of faults never falls, and an event failed only if it grew
  pub counted : vault.faults (vault_of office) ≤ vault.faults (vault_of office_then)
  pub failed : (B : Records) (L : Log) → StandsFor vault.holds office (trace_of B L) → vault.is_clean (vault_of office_then) → list_any is_failed given ≡ true
      → has_grown (vault.faults (vault_of office)) (vault.faults (vault_of office_then)) ≡ true
  -- whether the store's device is up, and what a stop leaves
  pub outlasts : Outlasts vault.holds vault.is_clean vault.is_up vault.may_leave office office_then given

-- a part of a turn, of whose events and calls this holds
pub record Part {V W : Type 0} (vault : Ghosts V) (Asked : W → List Call → Type 0)
    (office : Office V) (wire : W) (office_then : Office V) (wire_then : W) (Facts : Log → List Call → Type 0) : Type 0 where
  pub given : Log
  pub calls : List Call
  pub was_given : WasGiven vault office office_then given
  pub was_asked : WasAsked Asked wire wire_then calls
  pub facts : Facts given calls

-- a part that asks the wire alone
pub record Asking {W : Type 0} (Asked : W → List Call → Type 0) (wire wire_then : W) (Facts : List Call → Type 0) : Type 0 where
  pub calls : List Call
  pub was_asked : WasAsked Asked wire wire_then calls
  pub facts : Facts calls

-- a part that gives events to the office alone
pub record Giving {V : Type 0} (vault : Ghosts V) (office office_then : Office V) (Facts : Log → Type 0) : Type 0 where
  pub given : Log
  pub was_given : WasGiven vault office office_then given
  pub facts : Facts given

-- no wait, no link that comes, none that is closed, no tick and no opening
pub record IsQuiet (given : Log) (calls : List Call) : Type 0 where
  pub no_moments : moments given ≡ []
  pub no_openings : openings given ≡ 0
  pub no_refusals : refusals given ≡ 0
  pub no_waits : waits calls ≡ []
  pub no_arrivals : arrivals calls ≡ []
  pub no_closings : closings calls ≡ []

-- a quiet part of the clients' port, whose events have their causes among these seats
pub record IsQuietFor (seats : List Seat) (given : Log) (calls : List Call) : Type 0 where
  pub quiet : IsQuiet given calls
  pub apart : list_any is_admin calls ≡ false
  pub caused : AreCaused seats calls given

-- A part of a server's turn. It gave these events and made these calls and no others, of which
-- `Facts` holds, and the listener heard the accounts of these events and nothing else.
abbrev pub Does : {V W L : Type 0} (vault : Ghosts V) (wire : the_wire.Ghosts W)
    (listener : the_listener.Ghosts L) (old new : Server V W L) (Facts : Log → List Call → Type 0)
    → Type 0
Does vault wire listener old new Facts =
    Part vault wire.asked old.office old.wire new.office new.wire
    (WithHeard vault.holds vault.is_clean listener.heard old.office old.listener
    new.office new.listener Facts)

-- One that accepts links: the listener heard of those that made room, and nothing else.
abbrev pub Accepts : {V W L : Type 0} (vault : Ghosts V) (wire : the_wire.Ghosts W)
    (listener : the_listener.Ghosts L) (old new : Server V W L) (Facts : Log → List Call → Type 0)
    → Type 0
Accepts vault wire listener old new Facts =
    Part vault wire.asked old.office old.wire new.office new.wire
    (λ given calls. HasHeard listener.heard old.listener new.listener (ends_by end.FullHouse given)
    × Facts given calls)

-- One that gives events to the office, and asks the wire nothing.
pub record Gives {V W L : Type 0} (vault : Ghosts V) (old new : Server V W L)
    (Facts : Log → Type 0) : Type 0 where
  pub wire : new.wire ≡ old.wire
  pub part : Giving vault old.office new.office Facts

-- One that asks the wire, and gives the office nothing. The listener hears no account of it.
pub record Asks {V W L : Type 0} (wire : the_wire.Ghosts W) (listener : the_listener.Ghosts L)
    (old new : Server V W L) (Facts : List Call → Type 0) : Type 0 where
  pub office : new.office ≡ old.office
  pub unheard : (h : List Hearing) → listener.heard old.listener h → listener.heard new.listener h
  pub part : Asking wire.asked old.wire new.wire Facts

-- A server still serves these seats, if the store is clean.
abbrev pub KeepsServing : {V W L : Type 0} (vault : Ghosts V) (wire : the_wire.Ghosts W)
    (old new : Server V W L) (seats these seats_then these_then : List Seat) → Type 0
KeepsServing vault wire old new seats these seats_then these_then =
    StillServes vault.holds vault.is_clean wire.tells old.office old.wire seats these
    new.office new.wire seats_then these_then

-- So it does while one seat's link is served: its connection may end, and those before it stay open.
abbrev pub KeepsServingOne : {V W L : Type 0} (vault : Ghosts V) (wire : the_wire.Ghosts W)
    (seat : Seat) (old new : Server V W L) → Type 0
KeepsServingOne vault wire seat old new =
    (seats these : List Seat) → Contains seats seat → All (λ s. Precedes s seat) these
    → KeepsServing vault wire old new seats these seats these

-- The connection is open.
abbrev pub IsOpenIn : {V : Type 0} (Holds : V → Contents → Type 0) (office : Office V) (c : ℕ)
    → Type 0
IsOpenIn Holds office c = (T : Trace) → StandsFor Holds office T → is_open T c ≡ true

-- It went by one event, and isn't open if it was.
pub record IsEnded {V : Type 0} (Holds : V → Contents → Type 0) (IsClean : V → Type 0)
    (office office_then : Office V) (c : ℕ) (given : Log) : Type 0 where
  pub event_tag : EventTag
  pub is : given ≡ (event.Gone c, event_tag) ∷ []
  pub shut : IsOpenIn Holds office c → IsShutBy Holds IsClean office office_then c given

module _ (links links_then : Clients) where
  -- The settings stay, and which spool file was tried last; if the next turn didn't wait before, it
  -- doesn't; and each refusal still keeps a login back for 1 to 15 seconds.
  pub record Keeps : Type 0 where
    pub set : settings_of links_then ≡ settings_of links
    pub last : links_then.last ≡ links.last
    pub polled : links.poll_now ≡ true → links_then.poll_now ≡ true
    pub pacing : ArePacing links.guesses.refusals.items → ArePacing links_then.guesses.refusals.items

  -- and the seats
  pub record KeepsSeats : Type 0 where
    pub keeps : Keeps
    pub seats : links_then.seats ≡ links.seats

  -- Only which logins were refused may change.
  pub record NotesGuesses : Type 0 where
    pub keeps : KeepsSeats
    pub newcomers : links_then.newcomers ≡ links.newcomers
    pub lock_released : links_then.lock_released ≡ links.lock_released
    pub poll_now : links_then.poll_now ≡ links.poll_now

  -- Logins are kept back after a session ended: still, if they were before; only if they wait for
  -- locks; and then the next turn doesn't wait.
  pub record ReleasesMore : Type 0 where
    pub still : links.lock_released ≡ true → links_then.lock_released ≡ true
    pub waits : links_then.lock_released ≡ true
        → (links.lock_released ≡ true) ⊎ ((links.wait == 0) ≡ false)
    pub poll_now : links_then.lock_released ≡ true
        → (links.lock_released ≡ true) ⊎ (links_then.poll_now ≡ true)

  -- While late clients are ended, the next turn waits as before, each newcomer still has a seat,
  -- and nobody is late who wasn't.
  pub record Ends (now seconds : ℕ) : Type 0 where
    pub poll_now : links_then.poll_now ≡ links.poll_now
    pub seated : AreSeatedAt links → AreSeatedAt links_then
    pub late : AreNoMoreLate now seconds links.newcomers.newcomers.items
        links_then.newcomers.newcomers.items

  -- Links are closed: each newcomer still has a seat.
  pub record Closes : Type 0 where
    pub keeps : Keeps
    pub seated : AreSeatedAt links → AreSeatedAt links_then

  -- that at one place is, unless it stays: its newcomer goes with it, and nobody else
  pub record ClosesSeat (place : ℕ) (stays : Bool) : Type 0 where
    pub closes : Closes
    pub newcomers : (d : Seat) → links_then.newcomers.newcomers.items
        ≡ (if stays then links.newcomers.newcomers.items
        else others (slice_index_or links.seats.items place d).connection
        links.newcomers.newcomers.items)

  -- More seats were taken, and their connections were noted; who was noted is so still.
  pub record AreNoted (now : ℕ) : Type 0 where
    pub keeps : Keeps
    pub poll_now : links_then.poll_now ≡ links.poll_now
    pub more : List Seat
    pub is : links_then.seats.items ≡ links.seats.items ++ more
    pub seated : AreSeatedAt links → AreSeatedAt links_then
    pub each : AreNotedNow now links.newcomers.newcomers.items links_then.newcomers.newcomers.items
    pub newly : AreSeatedAt links
        → All (IsNewlyNoted now links.newcomers.newcomers.items
        links_then.newcomers.newcomers.items) more
    pub noted : (c : ℕ) (n : Newcomer) → newcomer c links.newcomers.newcomers.items ≡ Some n
        → newcomer c links_then.newcomers.newcomers.items ≡ Some n

-- A connection was served, whose session may have ended: then logins are kept back, if they wait.
pub record ReleasesLock {V : Type 0} (Holds : V → Contents → Type 0) (office office_then : Office V)
    (links links_then : Clients) (c : ℕ) : Type 0 where
  pub more : ReleasesMore links links_then
  pub is : (T U : Trace) → StandsFor Holds office T → StandsFor Holds office_then U
      → links_then.lock_released ≡ (links.lock_released
      || releases_lock links.wait (live (history T) c) (live (history U) c))
