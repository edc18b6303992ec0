-- The events that an office is given, and traces of them.
use Rattle.std.specs.Prelude.{ℕ, false, List, ◌∷◌}
use Rattle.session.specs.declared.removals.Removals.{Removals}
use Rattle.office.specs.Answers.{AdminCommand}
use Rattle.office.specs.declared.limits.AdminAccess.{AdminAccess}
use Rattle.vault.specs.Records.{Records}
use Rattle.office.specs.History.{Tag}

-- an office's settings: after how many seconds an idle connection is ended, when removals are
-- judged, and which requests its administration answers
pub record Limits : Type 0 where
  pub idle : ℕ
  pub removals : Removals
  pub access : AdminAccess

-- none of the requests that an administration answers only if it is opened so
abbrev pub no_access : AdminAccess
no_access = record { lists_clerks = false }

-- Start is an office's opening; the others are those that `step` takes
pub data Event : Type 0 where
  Start : (host : List ℕ) (boot : ℕ) (limits : Limits) → Event
  Connect : Event
  Bytes : (number : ℕ) (piece : List ℕ) → Event
  Took : (number octets : ℕ) → Event
  Gone : (number : ℕ) → Event
  Tick : (now : ℕ) → Event
  Deposit : (maildrop class id text : List ℕ) → Event
  Admin : AdminCommand → Event
  Restart : (boot : ℕ) → Event

-- what a trace records of an event's outcome: that it was ignored, or a tag
pub data EventTag : Type 0 where
  Ignored : EventTag
  Tagged : Tag → EventTag

-- events with their tags, the newest first
abbrev pub Log : Type 0
Log = List (Event × EventTag)

-- the records of a store at first (`base`), and what its office was given since (`log`)
pub record Trace : Type 0 where
  pub base : Records
  pub log : Log

-- a trace with one more event
abbrev pub given : Trace → Event → EventTag → Trace
given T e m = record { base = T.base; log = (e, m) ∷ T.log }
