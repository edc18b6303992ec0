-- All that a connection took since its opening, and what the history sends it; and which tags the
-- events of a log may have.
use Rattle.std.specs.Prelude.{◌≡◌, ℕ, Bool, true, false, ◌&&◌, ◌||◌, ◌≤◌, ◌==◌, List, [], ◌∷◌, ◌++◌}
use Rattle.std.specs.Prelude.{length, ⊤, if◌then◌else◌}
use Rattle.vault.specs.Records.{Records}
use Rattle.office.specs.History.{Done, Entry}
use Rattle.office.specs.Connections.{connected, closing, sent}
use Rattle.office.specs.Replying.{is_empty}
use Rattle.office.specs.Events.{Event, EventTag, Tagged, Log, Trace}
use Rattle.office.specs.Events as event
use Rattle.office.specs.Outcomes.{Outcome, event_tag_of}
use Rattle.office.specs.Log.{next_number}
use Rattle.office.specs.Trace.{history, rest, is_open, untaken}
use Rattle.office.specs.Expected.{IsOutcome, octets_taken}

-- the trace of these records and this log
abbrev pub trace_of : Records → Log → Trace
trace_of B L = record { base = B; log = L }

-- ---- octets that were taken

-- an opening begins anew, and each taking that wasn't ignored adds its octets; `next` is the number
-- that an opening gets
abbrev pub all_taken_after : Event → EventTag → (next c : ℕ) → (octets before : List ℕ) → List ℕ
all_taken_after event.Connect (Tagged Done) next c octets before = if next == c then [] else before
all_taken_after (event.Took n count) (Tagged t) next c octets before =
    if n == c then before ++ octets else before
all_taken_after _ m next c octets before = before

-- the octets that a connection took since its opening, of a log over these records
abbrev pub all_taken_by : Records → Log → ℕ → List ℕ
all_taken_by B [] c = []
all_taken_by B ((e, m) ∷ L) c =
    all_taken_after e m (next_number L) c (octets_taken (trace_of B L) e m) (all_taken_by B L c)

-- the same, of a trace
abbrev pub all_taken : Trace → ℕ → List ℕ
all_taken T c = all_taken_by T.base T.log c

-- ---- connections that closed

-- a connection closes by itself: it is connected and closing, and all is taken
abbrev pub closes_at : Log → List Entry → ℕ → Bool
closes_at L G c = connected G c && closing G c && is_empty (untaken L G c)

-- an opening begins anew; a connection that closed stays so; `now` says whether it closes by the
-- event, and `next` is the number that an opening gets
abbrev pub closed_after : Event → EventTag → (next c : ℕ) → (now before : Bool) → Bool
closed_after event.Connect (Tagged Done) next c now before = if next == c then false else before
closed_after _ m next c now before = now || before

-- whether its own closing ended a connection, of a log over these records
abbrev pub has_closed_by : Records → Log → ℕ → Bool
has_closed_by B [] c = false
has_closed_by B ((e, m) ∷ L) c = closed_after e m (next_number L) c
    (closes_at ((e, m) ∷ L) (history (trace_of B ((e, m) ∷ L))) c) (has_closed_by B L c)

-- the same, of a trace
abbrev pub has_closed : Trace → ℕ → Bool
has_closed T c = has_closed_by T.base T.log c

-- ---- which tags a log may have

-- An event's tag is that of an outcome that it may have, if each connection is lent some number
-- of the octets that it is owed.
pub record IsAdmitted (T : Trace) (e : Event) (m : EventTag) : Type 0 where
  pub lent : ℕ → ℕ
  pub owed : (c : ℕ) → lent c ≤ length (rest T c)
  pub outcome : Outcome
  pub is : IsOutcome T lent e outcome
  pub event_tag : m ≡ event_tag_of outcome

-- each event of a log over these records
abbrev pub AreAdmittedBy : Records → Log → Type 0
AreAdmittedBy B [] = ⊤
AreAdmittedBy B ((e, m) ∷ L) = IsAdmitted (trace_of B L) e m × AreAdmittedBy B L

-- each event of a trace
abbrev pub AreAdmitted : Trace → Type 0
AreAdmitted T = AreAdmittedBy T.base T.log

-- ---- sent exactly

-- What a connection took, followed by what it is still owed, is what the history sends it. Once it
-- is ended, it took a beginning of that; and all of it, if it closed by itself.
pub record IsSentExactly (T : Trace) (c : ℕ) : Type 0 where
  pub while_open : is_open T c ≡ true → all_taken T c ++ rest T c ≡ sent (history T) c
  pub beginning : (untaken : List ℕ) × (all_taken T c ++ untaken ≡ sent (history T) c)
  pub closed : has_closed T c ≡ true → all_taken T c ≡ sent (history T) c
  -- so it ended, if nothing else ended it
  pub else_closed : is_open T c ≡ false → connected (history T) c ≡ true
      → all_taken T c ≡ sent (history T) c
