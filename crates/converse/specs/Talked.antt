-- What a call of `talk` leaves, by its answer: for which trace the office then stands.
use Rattle.std.specs.Prelude.{◌≡◌, ℕ, ⊤, Bool, true, false, ◌≤◌, ◌⊎◌, ◌^◌, ◌-◌, ◌==◌, List, ◌∷◌, ◌++◌, length, Result, Ok, Err}
use Rattle.std.specs.List.{list_all}
use Rattle.vault.specs.Records.{Records}
use Rattle.vault.specs.Changes.{Contents}
use Rattle.office.specs.History.{Act, Tag, NoMemory}
use Rattle.office.specs.Events.{Event, EventTag, Tagged, Log, Trace}
use Rattle.office.specs.Events as event
use Rattle.office.specs.Trace.{acts, is_open}
use Rattle.office.specs.Expected.{is_full}
use Rattle.office.specs.Stands.{StandsFor, vault_of}
use Rattle.office.specs.declared.office.Office.{Office}
use Rattle.converse.specs.declared.talk.TalkFault.{TalkFault}
use Rattle.converse.specs.declared.talk.TalkFault.TheVariants as fault
use Rattle.converse.specs.Played.{Caused}
use Rattle.converse.specs.Talk.{NeverBegins, Talks, TalksInPart, BreaksOff, BreaksOffReading}

-- the trace of these records and this log
abbrev pub trace_of : Records → Log → Trace
trace_of B L = record { base = B; log = L }

-- an event of connection c, after its opening
abbrev pub is_own : ℕ → Event × EventTag → Bool
is_own c (event.Bytes number piece, m) = number == c
is_own c (event.Took number octets, m) = number == c
is_own c (event.Gone number, m) = number == c
is_own c _ = false

-- a log is an older one, an opening (or one that was refused), and events of connection c alone
pub record Extends (c : ℕ) (older L : Log) : Type 0 where
  pub opening : EventTag
  pub own : Log
  pub each : list_all (is_own c) own ≡ true
  pub is : L ≡ own ++ (event.Connect, opening) ∷ older

-- An office stands for a trace that goes on from T by one opening and the events of connection c, and of its log this holds. What failed in it
-- had its cause: the store's count of faults grew since it was `before`.
pub record StandsSo {V : Type 0} (Holds : V → Contents → Type 0) (faults : V → ℕ) (before : ℕ) (o : Office V) (T : Trace) (c : ℕ) (P : Log → Type 0) : Type 0 where
  pub log : Log
  pub stands : StandsFor Holds o (trace_of T.base log)
  pub own : Extends c T.log log
  pub caused : Caused before (faults (vault_of o)) T (trace_of T.base log)
  pub so : P log

-- a fault of the source, or of the sink, comes only if a call of it failed
abbrev pub HasFailed : (reads writes : Bool) → TalkFault → Type 0
HasFailed reads writes fault.Read = reads ≡ true
HasFailed reads writes fault.Write = writes ≡ true
HasFailed reads writes fault.TooManyConnections = ⊤
HasFailed reads writes fault.NoMemory = ⊤
HasFailed reads writes fault.Endless = ⊤

-- if a conversation came to its end, or a read failed, all that was written is flushed
abbrev pub IsFlushedBy : Result Unit TalkFault → (flushed : Bool) → Type 0
IsFlushedBy (Ok done) flushed = flushed ≡ true
IsFlushedBy (Err fault.Read) flushed = flushed ≡ true
IsFlushedBy (Err fault.Write) flushed = ⊤
IsFlushedBy (Err fault.TooManyConnections) flushed = ⊤
IsFlushedBy (Err fault.NoMemory) flushed = ⊤
IsFlushedBy (Err fault.Endless) flushed = ⊤

-- so many octets were read, or so many written
abbrev pub IsEndless : (octets written : List ℕ) → Type 0
IsEndless octets written = (2 ^ 64 - 1 ≤ length octets) ⊎ (2 ^ 64 - 1 ≤ length written)

-- the last event of a log found no memory
abbrev pub MetLack : Log → Type 0
MetLack L = (e : Event) × (before : Log) × (L ≡ (e, Tagged NoMemory) ∷ before)

-- the last event is the connection's end, and the one before it found no memory
abbrev pub MetLackBefore : ℕ → Log → Type 0
MetLackBefore c L = (m : EventTag) × (before : Log) × (L ≡ (event.Gone c, m) ∷ before)
    × MetLack before

-- the connection isn't open, and of the acts this holds
abbrev pub Leaves : Records → ℕ → Log → (List (Act × Tag) → Type 0) → Type 0
Leaves B c L P = (is_open (trace_of B L) c ≡ false) × P (acts (trace_of B L))

-- By what `talk` answered over an office that stood for T: what is said of the log of the trace for which it stands now. `AtEnd` says
-- that the reader gave its end, and `grown` that the store's count of faults grew.
abbrev pub ComesOut : (AtEnd : Type 0) (grown : Bool) → Trace → ℕ → (octets written : List ℕ) → Result Unit TalkFault → Log → Type 0
ComesOut AtEnd grown T c octets written (Ok done) L =
    Leaves T.base c L (λ new. Talks T.base c octets written AtEnd (acts T) new ⊎ (TalksInPart T.base c octets written (acts T) new × (grown ≡ true)))
ComesOut AtEnd grown T c octets written (Err fault.Read) L = Leaves T.base c L (BreaksOffReading T.base c octets written (acts T))
ComesOut AtEnd grown T c octets written (Err fault.Write) L = Leaves T.base c L (BreaksOff T.base c octets written false (acts T))
ComesOut AtEnd grown T c octets written (Err fault.TooManyConnections) L =
    NeverBegins octets written (acts T) (acts (trace_of T.base L)) × (is_full T ≡ true)
ComesOut AtEnd grown T c octets written (Err fault.NoMemory) L =
    (NeverBegins octets written (acts T) (acts (trace_of T.base L)) × MetLack L)
    ⊎ (Leaves T.base c L (BreaksOff T.base c octets written true (acts T)) × MetLackBefore c L)
ComesOut AtEnd grown T c octets written (Err fault.Endless) L =
    Leaves T.base c L (BreaksOff T.base c octets written false (acts T)) × IsEndless octets written
