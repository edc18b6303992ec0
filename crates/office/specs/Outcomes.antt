-- The outcomes of events.
use Rattle.std.specs.Prelude.{◌≡◌, ℕ, true, ⊤}
use Rattle.vault.specs.Calls.{has_grown}
use Rattle.office.specs.Answers.{Answer}
use Rattle.office.specs.Events.{EventTag, Tagged}
use Rattle.office.specs.History as history
use Rattle.office.specs.Events as event

-- why an event is ignored; the first reason in this order that holds
pub data Reason : Type 0 where
  NoSuchConnection : Reason
  NotReady : Reason
  PieceTooLong : Reason
  TooManyConnections : Reason

-- what `step` answers
pub data Outcome : Type 0 where
  Opened : ℕ → Outcome
  Done : Outcome
  Failed : Outcome
  NoMemory : Outcome
  Ignored : Reason → Outcome
  Answered : Answer → Outcome

-- an outcome's tag in a trace
abbrev pub event_tag_of : Outcome → EventTag
event_tag_of (Opened c) = Tagged history.Done
event_tag_of Done = Tagged history.Done
event_tag_of Failed = Tagged history.Failed
event_tag_of NoMemory = Tagged history.NoMemory
event_tag_of (Ignored reason) = event.Ignored
event_tag_of (Answered answer) = Tagged history.Done

-- the outcome isn't want of memory
abbrev pub HasMemory : Outcome → Type 0
HasMemory NoMemory = ⊥
HasMemory _ = ⊤

-- an event is answered Failed only if the store's count of faults grew
abbrev pub HasCause : (before now : ℕ) → Outcome → Type 0
HasCause before now Failed = has_grown before now ≡ true
HasCause before now _ = ⊤
