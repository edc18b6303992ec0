-- What a stop of the device in an event (a crash, the power gone) leaves: what the store says when
-- it is opened again.
use Rattle.std.specs.Prelude.{◌≤◌, ◌⊎◌, ⊤, ℕ, Option, Some, None}
use Rattle.vault.specs.Records.{Agree}
use Rattle.vault.specs.Changes.{Contents, records_of}
use Rattle.vault.specs.Stops.{SaySame}
use Rattle.vault.specs.declared.vault.Vault.{Ghosts}
use Rattle.office.specs.declared.reading.PutPage.{PutPage}
use Rattle.office.specs.declared.reading.PutPage.TheVariants as page
use Rattle.office.specs.declared.login_state.LineOutcome.{LineOutcome}
use Rattle.office.specs.declared.login_state.LineOutcome.TheVariants as line_outcome
use Rattle.office.specs.History.{Done}
use Rattle.office.specs.Sessions.{records}
use Rattle.office.specs.Events.{Event, EventTag, Ignored, Tagged, Trace, given}
use Rattle.office.specs.Trace.{history}
use Rattle.office.specs.Outcomes.{Outcome, event_tag_of}
use Rattle.office.specs.Outcomes as outcome

-- contents say what a trace says: their records are those of the trace's history
abbrev pub SaysTrace : Contents → Trace → Type 0
SaysTrace c T = Agree (records_of c) (records T.base (history T))

-- all contents that a stop may leave say what a trace says
abbrev pub LeavesTrace : (MayLeave : Contents → Type 0) → Trace → Type 0
LeavesTrace MayLeave T = (left : Contents) → MayLeave left → SaysTrace left T

-- an event that was answered otherwise than Failed or NoMemory
abbrev pub IsAnswered : Outcome → Type 0
IsAnswered outcome.Failed = ⊥
IsAnswered outcome.NoMemory = ⊥
IsAnswered _ = ⊤

-- the tag of an event that is taken as done; an ignored event stays ignored
abbrev pub taken_as_done : EventTag → EventTag
taken_as_done Ignored = Ignored
taken_as_done (Tagged t) = Tagged Done

-- a trace with an event that got this outcome, taken as done
abbrev pub with_it_done : Trace → Event → Outcome → Trace
with_it_done T e o = given T e (taken_as_done (event_tag_of o))

-- if an event was answered Failed or NoMemory, one of the two holds; else the one with the event
abbrev pub EitherOrWith : Outcome → (without with_it : Type 0) → Type 0
EitherOrWith outcome.Failed without with_it = without ⊎ with_it
EitherOrWith outcome.NoMemory without with_it = without ⊎ with_it
EitherOrWith _ without with_it = with_it

-- All contents that a stop may leave after an event with this outcome say what the trace before the
-- event says, or the trace with the event taken as done; only the latter if the outcome is
-- neither Failed nor NoMemory.
abbrev pub StopLeaves : (MayLeave : Contents → Type 0) → Trace → Event → Outcome → Type 0
StopLeaves MayLeave T e o = (left : Contents) → MayLeave left
    → EitherOrWith o (SaysTrace left T) (SaysTrace left (with_it_done T e o))

-- a device that was up is up after an event that was answered otherwise than Failed or NoMemory
abbrev pub StaysUpUnless : (was_up is_up : Type 0) → Outcome → Type 0
StaysUpUnless was_up is_up o = was_up → IsAnswered o → is_up

-- ---- a line

-- all contents that a stop may leave have the same records as these
pub record LeavesHeld (MayLeave : Contents → Type 0) (c : Contents) : Type 0 where
  pub says : (left : Contents) → MayLeave left → SaySame left c

-- all contents that a stop may leave have the same records as one of these
pub record LeavesOneOf (MayLeave : Contents → Type 0) (a b : Contents) : Type 0 where
  pub says : (left : Contents) → MayLeave left → SaySame left a ⊎ SaySame left b

-- ---- a part of a line, in one word

-- a page was read
abbrev pub HasRead : Option ℕ → Type 0
HasRead None = ⊥
HasRead (Some n) = ⊤

-- a page was put, the last one or not
abbrev pub WasPut : PutPage → Type 0
WasPut page.More = ⊤
WasPut page.Last = ⊤
WasPut page.Refused = ⊥

-- a line was done
abbrev pub WasDone : LineOutcome → Type 0
WasDone line_outcome.Done = ⊤
WasDone line_outcome.Failed = ⊥

-- A part changes records once at most. The count of faults doesn't fall, and the store doesn't
-- become clean again. If it is clean, it is up still if the part ended as `Own` says, and a stop
-- leaves what was held, or what the part makes of it when it is done (`after`).
pub record ActsOnce {V : Type 0} (vault : Ghosts V) (old new : V) (Own : Type 0)
    (after : Contents → Contents) : Type 0 where
  pub counted : vault.faults old ≤ vault.faults new
  pub clean : vault.is_clean new → vault.is_clean old
  pub up : (c : Contents) → vault.holds old c → vault.is_clean new → vault.is_up old → Own
      → vault.is_up new
  pub stop : (c : Contents) → vault.holds old c → vault.is_clean new → vault.is_up old
      → LeavesOneOf (vault.may_leave new) c (after c)
