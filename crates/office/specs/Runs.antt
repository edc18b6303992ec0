-- A list of events done in order: the outcome of each, the octets that each taking took, why any
-- failed, and what a stop leaves.
use Rattle.std.specs.Prelude.{◌≡◌, ◌<◌, ◌≤◌, ◌+◌, ℕ, false, List, [], ◌∷◌, ◌++◌, ⊤}
use Rattle.vault.specs.Changes.{Contents}
use Rattle.vault.specs.Calls.{greatest_count}
use Rattle.vault.specs.declared.vault.Vault.{Ghosts}
use Rattle.office.specs.AfterEvent.{StandsAfter}
use Rattle.office.specs.Events.{Event, Trace}
use Rattle.office.specs.Expected.{IsOutcome, may_show, octets_taken}
use Rattle.office.specs.History as history
use Rattle.office.specs.Outcomes.{event_tag_of, HasCause, HasMemory}
use Rattle.office.specs.Outcomes as outcomes
use Rattle.office.specs.Seen.{event_seen, outcome_seen, followed_by}
use Rattle.office.specs.Stands.{StandsFor, lent_by, vault_of}
use Rattle.office.specs.Stopping.{IsAnswered, LeavesTrace, StopLeaves}
use Rattle.office.specs.Taken.{AreAdmitted}
use Rattle.office.specs.declared.event.Event.{Event as Given}
use Rattle.office.specs.declared.event.Outcome.{Outcome}
use Rattle.office.specs.declared.office.Office.{Office}
use Rattle.office.specs.declared.transcript.RunFault.{RunFault}
use Rattle.office.specs.declared.transcript.RunFault.TheVariants.{NoMemory}

-- what one event was answered, and the octets that it took
pub record Step : Type 0 where
  pub outcome : Outcome
  pub octets : List ℕ

-- a step is an event's outcome, with the octets taken; how many octets are lent is said by an
-- office that stands for the trace
pub record IsStep {V : Type 0} (Holds : V → Contents
    → Type 0) (T : Trace) (e : Event) (s : Step) : Type 0 where
  pub office : Office V
  pub stood : StandsFor Holds office T
  pub outcome : IsOutcome T (lent_by office) e (outcome_seen s.outcome)
  pub octets : s.octets ≡ octets_taken T e (event_tag_of (outcome_seen s.outcome))

-- ---- a list of events

-- a trace with these events, and the tags of their steps
abbrev pub followed : Trace → List Given → List Step → Trace
followed T (e ∷ es) (s ∷ ss) = followed (followed_by T (event_seen e) s.outcome) es ss
followed T _ _ = T

-- each event has its step
abbrev pub AreSteps : {V : Type 0} → (Holds : V → Contents → Type 0) → Trace → List Given
    → List Step → Type 0
AreSteps Holds T [] [] = ⊤
AreSteps Holds T (e ∷ es) (s ∷ ss) =
    IsStep Holds T (event_seen e) s × AreSteps Holds (followed_by T (event_seen e) s.outcome) es ss
AreSteps Holds T _ _ = ⊥

-- over a trace these events have these steps, and the office then stands for the trace with them
pub record Follows {V : Type 0} (Holds : V → Contents
    → Type 0) (events : List Given) (steps : List Step) (T : Trace) (o : Office V) : Type 0 where
  pub each : AreSteps Holds T events steps
  pub stands : StandsFor Holds o (followed T events steps)

-- one more event has its step, and what is said of an event (`StandsAfter`) holds of it
pub record Enters {V : Type 0} (vault : Ghosts V) (event : Given) (before after : List Step)
    (old new : Office V) (T : Trace) : Type 0 where
  pub step : Step
  pub entered : after ≡ before ++ step ∷ []
  pub octets : step.octets
      ≡ octets_taken T (event_seen event) (event_tag_of (outcome_seen step.outcome))
  pub done : StandsAfter vault old new (event_seen event) (outcome_seen step.outcome) T

-- how many events were done before a run stopped
abbrev pub done_before : RunFault → ℕ
done_before (NoMemory done) = done

-- ---- causes

-- Between the count of faults before all steps and that after them there is one for each step: none
-- is lower than the one before, and each step that was answered Failed raised it.
abbrev pub HaveCauses : (before now : ℕ) → List Step → Type 0
HaveCauses before now [] = before ≡ now
HaveCauses before now (s ∷ ss) = (after : ℕ) × (before ≤ after)
    × HasCause before after (outcome_seen s.outcome) × HaveCauses after now ss

-- 1 for the outcome Failed, 0 for any other
abbrev pub one_if_failed : outcomes.Outcome → ℕ
one_if_failed outcomes.Failed = 1
one_if_failed _ = 0

-- how many steps were answered Failed
abbrev pub failures_in : List Step → ℕ
failures_in [] = 0
failures_in (s ∷ ss) = one_if_failed (outcome_seen s.outcome) + failures_in ss

-- the count of faults grew at least by the number of failed steps, while it is below its greatest
-- value; so if it didn't grow, no step failed
abbrev pub FailuresAreCounted : Type 0
FailuresAreCounted = (before now : ℕ) (ss : List Step) → now < greatest_count
    → HaveCauses before now ss → before + failures_in ss ≤ now

-- ---- memory

-- each step whose event takes no memory isn't answered NoMemory
abbrev pub HaveMemory : Trace → List Given → List Step → Type 0
HaveMemory T (e ∷ es) (s ∷ ss) = (may_show T (event_seen e) history.NoMemory ≡ false
    → HasMemory (outcome_seen s.outcome))
    × HaveMemory (followed_by T (event_seen e) s.outcome) es ss
HaveMemory T _ _ = ⊤

-- ---- stops

-- each step was answered otherwise than Failed or NoMemory
abbrev pub AreAnswered : List Step → Type 0
AreAnswered [] = ⊤
AreAnswered (s ∷ ss) = IsAnswered (outcome_seen s.outcome) × AreAnswered ss

-- What a stop in the last of these events may leave, if all before it were answered: what the
-- trace says with all events but the last, or with the last too; only the latter if that was
-- answered.
abbrev pub StopLeavesRun : (MayLeave : Contents → Type 0) → Trace → List Given → List Step → Type 0
StopLeavesRun MayLeave T [] [] = LeavesTrace MayLeave T
StopLeavesRun MayLeave T (e ∷ []) (s ∷ []) =
    StopLeaves MayLeave T (event_seen e) (outcome_seen s.outcome)
StopLeavesRun MayLeave T (e ∷ es) (s ∷ ss) = IsAnswered (outcome_seen s.outcome)
    → StopLeavesRun MayLeave (followed_by T (event_seen e) s.outcome) es ss
StopLeavesRun MayLeave T _ _ = ⊤

-- ---- what a run promises beside its steps

-- The store's count of faults, whether its device is up, and what a stop may leave are those of the
-- office's vault before and after.
pub record Ran {V : Type 0} (Holds : V → Contents → Type 0) (faults : V → ℕ) (IsUp : V
    → Type 0) (MayLeave : V → Contents → Type 0)
    (events : List Given) (steps : List Step) (T : Trace) (old new : Office V) : Type 0 where
  pub follows : Follows Holds events steps T new
  pub admitted : AreAdmitted T → AreAdmitted (followed T events steps)
  pub causes : HaveCauses (faults (vault_of old)) (faults (vault_of new)) steps
  pub up : IsUp (vault_of old) → AreAnswered steps → IsUp (vault_of new)
  pub stop : IsUp (vault_of old) → StopLeavesRun (MayLeave (vault_of new)) T events steps
