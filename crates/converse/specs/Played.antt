-- What the lines of a script print in an office, and the trace that they lead to.
use Rattle.std.specs.Prelude.{◌≡◌, ℕ, Bool, true, false, ◌+◌, ◌<◌, ⊤, nat_lt, List, [], ◌∷◌, ◌++◌, ◌==◌, ◌||◌, ◌⊎◌, length, take, filter, Option, Some, None, if◌then◌else◌}
use Rattle.std.specs.Io.KnownBytes.{Appends}
use Rattle.vault.specs.Calls.{has_grown}
use Rattle.vault.specs.Changes.{Contents}
use Rattle.office.specs.Events.{Event, EventTag, Tagged, Log, Took, Trace, given}
use Rattle.office.specs.History.{Failed}
use Rattle.office.specs.Expected.{IsOutcome}
use Rattle.office.specs.Trace.{most_lent, is_open, rest}
use Rattle.office.specs.Outcomes.{Outcome, Opened, Done, event_tag_of}
use Rattle.office.specs.Stands.{Keeps, StandsFor}
use Rattle.office.specs.declared.office.Office.{Office}
use Rattle.converse.specs.Escapes.{escaped}
use Rattle.converse.specs.Script.{ScriptLine, Does, Drains, NoPolicy}
use Rattle.converse.specs.Told.{sent_line, outcome_lines, ended_lines, has_ended, no_policy_line}

-- ---- one event

-- what a connection is lent of what it is owed: 16,384 octets at most
abbrev pub lent_at : Trace → ℕ → List ℕ
lent_at T c = take most_lent (rest T c)

-- how many octets it is lent
abbrev pub owed_by : Trace → ℕ → ℕ
owed_by T c = length (lent_at T c)

-- what is printed if a client takes the first n of the octets that it is lent: nothing if n is 0 or more than these
abbrev pub taken_text : (c : ℕ) (lent : List ℕ) (n : ℕ) → List ℕ
taken_text c lent n = if n == 0 || nat_lt (length lent) n then [] else sent_line c (take n lent)

-- what is printed before an event's outcome: the octets that a client took
abbrev pub sent_before : Trace → Event → List ℕ
sent_before T (Took c n) = taken_text c (lent_at T c) n
sent_before T _ = []

-- ---- takings of all that is lent, until nothing is owed; their outcomes, the newest first

-- the trace with these takings
abbrev pub drained : ℕ → Trace → List Outcome → Trace
drained c T [] = T
drained c T (o ∷ os) = given (drained c T os) (Took c (owed_by (drained c T os) c)) (event_tag_of o)

-- the octets that they took
abbrev pub drained_octets : ℕ → Trace → List Outcome → List ℕ
drained_octets c T [] = []
drained_octets c T (o ∷ os) = drained_octets c T os ++ lent_at (drained c T os) c

-- each was done while something was owed, and has an outcome that the office may give
abbrev pub AreTakings : ℕ → Trace → List Outcome → Type 0
AreTakings c T [] = ⊤
AreTakings c T (o ∷ os) =
    AreTakings c T os × (0 < owed_by (drained c T os) c) × IsOutcome (drained c T os) (owed_by (drained c T os)) (Took c (owed_by (drained c T os) c)) o

-- the last outcome; `done` if there was no taking
abbrev pub last_of : List Outcome → Outcome
last_of [] = Done
last_of (o ∷ os) = o

-- what is printed of them: one line, and none if there was no taking
abbrev pub drained_text : ℕ → Trace → List Outcome → List ℕ
drained_text c T [] = []
drained_text c T (o ∷ os) = sent_line c (drained_octets c T (o ∷ os))

-- U is T with these takings, and o is the outcome of the last
pub record Takes (T : Trace) (c : ℕ) (outcomes : List Outcome) (o : Outcome) (U : Trace) : Type 0 where
  pub are : AreTakings c T outcomes
  pub last : o ≡ last_of outcomes
  pub behind : U ≡ drained c T outcomes

-- all is taken, and these octets are printed as they are taken
abbrev pub TakesAll : Trace → ℕ → Outcome → (printed : List ℕ) → Trace → Type 0
TakesAll T c o printed U = (outcomes : List Outcome) × Takes T c outcomes o U × (rest U c ≡ []) × (printed ≡ escaped (drained_octets c T outcomes))

-- ---- lines

-- What a line does to T: what is printed before an outcome is told, that outcome, and the trace after it. A text that is no policy is no event.
abbrev pub Acts : Trace → ScriptLine → Option Outcome → (printed : List ℕ) → Trace → Type 0
Acts T (Does e) (Some o) printed U = IsOutcome T (owed_by T) e o
    × (U ≡ given T e (event_tag_of o)) × (printed ≡ sent_before T e)
Acts T (Drains c) (Some o) printed U = (outcomes : List Outcome) × Takes T c outcomes o U × (rest U c ≡ []) × (printed ≡ drained_text c T outcomes)
Acts T (NoPolicy f) None printed U = (U ≡ T) × (printed ≡ no_policy_line f)
Acts T _ _ printed U = ⊥

-- the connections that were opened and not yet printed as ended, with one that an outcome opened
abbrev pub known_with : Outcome → List ℕ → List ℕ
known_with (Opened c) known = known ++ c ∷ []
known_with _ known = known

-- what is printed of an outcome: its lines, and after them each of these connections that ended
abbrev pub told_text : Trace → (known : List ℕ) → Option Outcome → List ℕ
told_text U known None = []
told_text U known (Some o) = outcome_lines o ++ ended_lines (filter (has_ended U) (known_with o known))

-- those of them that are still open
abbrev pub still_known : Trace → (known : List ℕ) → Option Outcome → List ℕ
still_known U known None = known
still_known U known (Some o) = filter (is_open U) (known_with o known)

-- where a run stands: its trace, and the connections that were opened and not yet printed as ended
pub record Point : Type 0 where
  pub trace : Trace
  pub known : List ℕ

abbrev pub point : Trace → (known : List ℕ) → Point
point T known = record { trace = T; known = known }

-- what one line prints, and where it leads
pub record PlaysLine (P : Point) (line : ScriptLine) (printed : List ℕ) (Q : Point) : Type 0 where
  pub sent : List ℕ
  pub told : Option Outcome
  pub acts : Acts P.trace line told sent Q.trace
  pub text : printed ≡ sent ++ told_text Q.trace P.known told
  pub left : Q.known ≡ still_known Q.trace P.known told

-- what lines print one after the other, and where they lead
abbrev pub Plays : Point → List ScriptLine → (printed : List ℕ) → Point → Type 0
Plays P [] printed Q = (Q ≡ P) × (printed ≡ [])
Plays P (line ∷ lines) printed Q =
    (M : Point) × (first : List ℕ) × (others : List ℕ) × PlaysLine P line first M × Plays M lines others Q × (printed ≡ first ++ others)

-- the same from a trace with no connection known, to a trace with any
abbrev pub HasPlayed : Trace → List ScriptLine → (printed : List ℕ) → Trace → Type 0
HasPlayed T lines printed U = (known : List ℕ) × Plays (point T []) lines printed (point U known)

-- ---- lines that were broken off

-- What a line that was broken off did to T: nothing, or its event; of a `drain` some of its takings, or all.
abbrev pub Begun : Trace → ScriptLine → Trace → Type 0
Begun T (Does e) U = (U ≡ T) ⊎ ((o : Outcome) × IsOutcome T (owed_by T) e o
    × (U ≡ given T e (event_tag_of o)))
Begun T (Drains c) U = (outcomes : List Outcome) × AreTakings c T outcomes × (U ≡ drained c T outcomes)
Begun T (NoPolicy f) U = U ≡ T

-- the first lines were played, and at most one more was begun
abbrev pub PlaysInPart : Point → List ScriptLine → Trace → Type 0
PlaysInPart P [] U = U ≡ P.trace
PlaysInPart P (line ∷ lines) U = Begun P.trace line U ⊎ ((M : Point) × (printed : List ℕ) × PlaysLine P line printed M × PlaysInPart M lines U)

-- ---- what failed

abbrev pub is_failed : EventTag → Bool
is_failed (Tagged Failed) = true
is_failed _ = false

-- how many events of a log the store failed
abbrev pub failures : Log → ℕ
failures [] = 0
failures ((e, m) ∷ L) = (if is_failed m then 1 else 0) + failures L

-- an event that U has beyond T failed only if the store's count of faults grew
abbrev pub Caused : (before now : ℕ) → Trace → Trace → Type 0
Caused before now T U = failures T.log < failures U.log → has_grown before now ≡ true

-- this holds of what was printed and of U, and what failed had its cause
abbrev pub WithCause : (before now : ℕ) → Trace → (List ℕ → Trace → Type 0) → List ℕ → Trace → Type 0
WithCause before now T Is printed U = Is printed U × Caused before now T U

-- ---- what is left

-- some text was printed, and the office stands for some trace, of which this holds
pub record ComesTo {V : Type 0} (Holds : V → Contents → Type 0) (o : Office V) (before after : Option (List ℕ)) (Is : List ℕ → Trace → Type 0) : Type 0 where
  pub printed : List ℕ
  pub trace : Trace
  pub appends : Appends before after printed
  pub stands : StandsFor Holds o trace
  pub is : Is printed trace

-- the office stands for some trace, of which this holds, and what failed since T had its cause
pub record Reaches {V : Type 0} (Holds : V → Contents → Type 0) (o : Office V) (before now : ℕ) (T : Trace) (Is : Trace → Type 0) : Type 0 where
  pub trace : Trace
  pub stands : StandsFor Holds o trace
  pub is : Is trace
  pub caused : Caused before now T trace

-- The first lines were played from T (perhaps all, perhaps none), and at most one more was begun; an
-- event failed only if the store's count of faults grew from `first` to `now`.
pub record RunsInPart (first now : ℕ) (T : Trace) (lines : List ScriptLine) (U : Trace) : Type 0 where
  pub plays : PlaysInPart (point T []) lines U
  pub caused : Caused first now T U

-- the store keeps the records of the trace to which they lead
pub record HasRunInPart {V : Type 0} (Holds : V → Contents → Type 0) (new : V) (first now : ℕ) (T : Trace) (lines : List ScriptLine) : Type 0 where
  pub trace : Trace
  pub keeps : Keeps (Holds new) trace
  pub runs : RunsInPart first now T lines trace

-- all lines were played from T: what they print was printed, and an event failed only if the
-- store's count of faults grew from `first` to `now`
pub record Runs (first now : ℕ) (before after : Option (List ℕ)) (T : Trace)
    (lines : List ScriptLine) (U : Trace) : Type 0 where
  pub printed : List ℕ
  pub appends : Appends before after printed
  pub plays : HasPlayed T lines printed U
  pub caused : Caused first now T U

-- the store keeps the records of the trace to which they lead
pub record HasRun {V : Type 0} (Holds : V → Contents → Type 0) (new : V) (first now : ℕ)
    (before after : Option (List ℕ)) (T : Trace) (lines : List ScriptLine) : Type 0 where
  pub trace : Trace
  pub keeps : Keeps (Holds new) trace
  pub runs : Runs first now before after T lines trace
