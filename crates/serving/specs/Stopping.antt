-- What a stop of the store's device (a crash, the power gone) leaves after events, in office's
-- words, by the events' tags.
use Rattle.std.specs.Prelude.{◌≡◌, ◌⊎◌, ⊤, Bool, true, false, [], ◌∷◌, ◌++◌}
use Rattle.std.specs.List.{list_all}
use Rattle.vault.specs.Records.{Records}
use Rattle.vault.specs.Changes.{Contents}
use Rattle.office.specs.History.{Failed, NoMemory}
use Rattle.office.specs.Events.{Event, EventTag, Tagged, Log, Trace}
use Rattle.office.specs.Stands.{StandsFor, vault_of}
use Rattle.office.specs.Stopping.{SaysTrace, taken_as_done}
use Rattle.office.specs.Taken.{trace_of}
use Rattle.office.specs.declared.office.Office.{Office}

-- an event was answered otherwise than Failed or NoMemory
abbrev pub is_answered : Event × EventTag → Bool
is_answered (e, Tagged Failed) = false
is_answered (e, Tagged NoMemory) = false
is_answered _ = true

-- if it was answered Failed or NoMemory, one of the two holds; else the one with the event
abbrev pub EitherOrWithBy : EventTag → (without with_it : Type 0) → Type 0
EitherOrWithBy (Tagged Failed) without with_it = without ⊎ with_it
EitherOrWithBy (Tagged NoMemory) without with_it = without ⊎ with_it
EitherOrWithBy _ without with_it = with_it

-- All contents that a stop may leave after an event say what the trace before it says, or the trace
-- with the event taken as done; only the latter if it was answered.
abbrev pub StopLeavesBy : (MayLeave : Contents → Type 0) → Trace → Event → EventTag → Type 0
StopLeavesBy MayLeave T e m = (left : Contents) → MayLeave left
    → EitherOrWithBy m (SaysTrace left T)
    (SaysTrace left (trace_of T.base ((e, taken_as_done m) ∷ T.log)))

-- What a stop in the last of these events may leave, if all before it were answered.
abbrev pub StopLeavesAfter : (MayLeave : Contents → Type 0) → Records → (older given : Log) → Type 0
StopLeavesAfter MayLeave B older [] = ⊤
StopLeavesAfter MayLeave B older ((e, m) ∷ given) =
    list_all is_answered given ≡ true → StopLeavesBy MayLeave (trace_of B (given ++ older)) e m

-- A store's device that is up stays up while events are answered; what a stop in the last of them
-- leaves; and without an event the store isn't asked.
pub record Outlasts {V : Type 0} (Holds : V → Contents → Type 0) (IsClean IsUp : V → Type 0)
    (MayLeave : V → Contents → Type 0) (office office_then : Office V) (given : Log) : Type 0 where
  pub up : (B : Records) (L : Log) → StandsFor Holds office (trace_of B L)
      → IsClean (vault_of office_then) → IsUp (vault_of office)
      → list_all is_answered given ≡ true → IsUp (vault_of office_then)
  pub stop : (B : Records) (L : Log) → StandsFor Holds office (trace_of B L)
      → IsClean (vault_of office_then) → IsUp (vault_of office)
      → StopLeavesAfter (MayLeave (vault_of office_then)) B L given
  pub unasked : given ≡ [] → vault_of office_then ≡ vault_of office
