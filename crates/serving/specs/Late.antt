-- Clients that take too long for their login: each is ended, and nobody is forgotten but who logged
-- in or is gone.
use Rattle.std.specs.Prelude.{◌≡◌, ◌⊎◌, ℕ, true, false, List, ◌++◌, None}
use Rattle.std.specs.List.{All}
use Rattle.vault.specs.Records.{Records}
use Rattle.vault.specs.Changes.{Contents}
use Rattle.office.specs.Events.{Log, Trace}
use Rattle.office.specs.Trace.{history, is_open}
use Rattle.office.specs.Sessions.{live}
use Rattle.office.specs.Taken.{trace_of}
use Rattle.office.specs.Stands.{StandsFor, vault_of}
use Rattle.office.specs.declared.office.Office.{Office}
use Rattle.serving.specs.Given.{AreLateGone}
use Rattle.serving.specs.Newcomers.{newcomer, is_late, lies_unread, CountsFrom}
use Rattle.serving.specs.Seen.{Seen, given_in, calls_in, trace_after, may_keep}
use Rattle.serving.specs.KeptBack.{LiesUnread}
use Rattle.serving.specs.Settings.{settings}
use Rattle.serving.specs.declared.links.Links.{Links}
use Rattle.serving.specs.declared.links.Seat.{Seat}
use Rattle.serving.specs.declared.newcomers.Newcomer.{Newcomer}

-- a session lived on a connection after some of these events
pub record HasLived (B : Records) (older given : Log) (c : ℕ) : Type 0 where
  pub later : Log
  pub front : Log
  pub is : given ≡ later ++ front
  pub lived : live (history (trace_of B (front ++ older))) c ≡ true

-- ---- in a turn

-- those who are noted as not yet logged in
abbrev pub noted_by : Links → List Newcomer
noted_by links = links.clients.newcomers.newcomers.items

module _ (T : Trace) (now : ℕ) (links links_then : Links) (t : Seen) where
  -- a client logged in in this turn
  abbrev pub LoggedIn : (c : ℕ) → Type 0
  LoggedIn c = HasLived T.base T.log (given_in t) c

  -- its login stays unread for a cause
  abbrev pub WasPutOff : (c : ℕ) → Type 0
  WasPutOff c = LiesUnread T.base T.log (given_in t) (calls_in t) links.clients.wait
      (may_keep now links t c) t.seats c

  -- whoever is late logged in, or its login was put off, if its connection is open as the turn ends
  abbrev pub IsInTime : Seat → Type 0
  IsInTime s = is_late now (settings links).login_seconds (noted_by links) s.connection ≡ true
      → is_open (trace_after T t) s.connection ≡ true
      → LoggedIn s.connection ⊎ WasPutOff s.connection

  -- A connection that wasn't noted before is, and its seconds count from this moment, unless it
  -- logged in, if it is open as the turn ends.
  abbrev pub IsNotedSince : Seat → Type 0
  IsNotedSince s = newcomer s.connection (noted_by links) ≡ None
      → is_open (trace_after T t) s.connection ≡ true
      → CountsFrom now (newcomer s.connection (noted_by links_then)) ⊎ LoggedIn s.connection

  -- If its seconds stand still as the turn ends, its login was put off, or it logged in.
  abbrev pub IsCountedOn : Seat → Type 0
  IsCountedOn s = lies_unread (newcomer s.connection (noted_by links_then)) ≡ true
      → is_open (trace_after T t) s.connection ≡ true
      → LoggedIn s.connection ⊎ WasPutOff s.connection

-- ---- what only a part of a turn promises

-- whoever is late isn't open by then, or logged in meanwhile, or is noted as one whose login lies
-- unread
abbrev pub IsEndedInTime : (now seconds : ℕ) → List Newcomer → (B : Records) (older given : Log)
    → (after : Trace) → Seat → Type 0
IsEndedInTime now seconds newcomers B older given after s =
    is_late now seconds newcomers s.connection ≡ true → is_open after s.connection ≡ true
    → HasLived B older given s.connection ⊎ (lies_unread (newcomer s.connection newcomers) ≡ true)

-- nothing is open on a connection after these events
abbrev pub IsShutBy : {V : Type 0} (Holds : V → Contents → Type 0) (IsClean : V → Type 0)
    (office office_then : Office V) (c : ℕ) (given : Log) → Type 0
IsShutBy Holds IsClean office office_then c given =
    (B : Records) (L : Log) → StandsFor Holds office (trace_of B L) → IsClean (vault_of office_then)
    → is_open (trace_of B (given ++ L)) c ≡ false

-- Late clients were ended, of these seats all but who logged in, or has a login that lies unread;
-- and each connection is noted as before, unless it logged in.
pub record HasEndedLate {V : Type 0} (Holds : V → Contents → Type 0) (IsClean : V → Type 0)
    (office office_then : Office V) (now seconds : ℕ) (newcomers newcomers_then : List Newcomer)
    (these : List Seat) (given : Log) : Type 0 where
  pub gone : AreLateGone now seconds newcomers given
  pub each : (B : Records) (L : Log) → StandsFor Holds office (trace_of B L)
      → IsClean (vault_of office_then)
      → All (IsEndedInTime now seconds newcomers B L given (trace_of B (given ++ L))) these
  pub noted : (B : Records) (L : Log) → StandsFor Holds office (trace_of B L)
      → IsClean (vault_of office_then)
      → (c : ℕ) → (newcomer c newcomers_then ≡ newcomer c newcomers) ⊎ HasLived B L given c
