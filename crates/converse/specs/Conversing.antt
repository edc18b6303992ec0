-- A conversation as it goes on, between its opening and its end: B are the records, c is the connection's number, `old` are the
-- acts before it, and L is the log of the trace that the office stands for.
use Rattle.std.specs.Prelude.{◌≡◌, ℕ, Bool, true, false, ◌≤◌, ◌⊎◌, List, [], ◌∷◌, length, take, drop, Result, Ok, Err}
use Rattle.std.specs.List.{list_any}
use Rattle.popline.specs.Cutting.{cut}
use Rattle.vault.specs.Records.{Records}
use Rattle.vault.specs.Calls.{has_grown}
use Rattle.office.specs.History.{Act, Gone, Tag, Done, is_no_memory}
use Rattle.office.specs.Connections.{connected, closing, acted, sent}
use Rattle.office.specs.Told.{told}
use Rattle.office.specs.Events.{Log, Trace}
use Rattle.office.specs.Log.{stream, taken}
use Rattle.office.specs.Outcomes.{Outcome, Opened}
use Rattle.office.specs.Outcomes as outcome
use Rattle.office.specs.Trace.{acts, history, rest, is_open, is_open_by, is_ready}
use Rattle.office.specs.Expected.{is_full}
use Rattle.converse.specs.declared.talk.TalkFault.{TalkFault}
use Rattle.converse.specs.declared.talk.TalkFault.TheVariants as fault
use Rattle.converse.specs.Talk.{spoken, are_fit, AreInTurn, TalksInPart}
use Rattle.converse.specs.Talked.{trace_of, MetLack, IsEndless}

-- H is the history `old`, then the opening, then some of the lines; a line acted only once all replies before it were written
pub record LinesActed (B : Records) (c : ℕ) (old : List (Act × Tag)) (octets written : List ℕ) (tags : List Tag) (H : List (Act × Tag)) : Type 0 where
  pub some : length tags ≤ length (cut octets)
  pub fit : are_fit B c octets tags old ≡ true
  pub are : H ≡ spoken B c octets tags old
  pub in_turn : AreInTurn (told B H) c written
  pub replies : written ≡ take (length written) (sent (told B H) c)

-- none of them met want of memory
pub record Spoke (B : Records) (c : ℕ) (old : List (Act × Tag)) (octets written : List ℕ) (tags : List Tag) (H : List (Act × Tag)) : Type 0 where
  pub lines : LinesActed B c old octets written tags H
  pub ample : list_any is_no_memory tags ≡ false
  pub count : acted (told B H) c ≡ length tags
  pub here : connected (told B H) c ≡ true

-- these octets were read and these written; if all replies are written, and no line closed the connection, every line acted
pub record GoesOn (B : Records) (c : ℕ) (old : List (Act × Tag)) (octets written : List ℕ) (L : Log) : Type 0 where
  pub tags : List Tag
  pub heard : stream L c ≡ octets
  pub took : taken L c ≡ length written
  pub spoke : Spoke B c old octets written tags (acts (trace_of B L))
  pub each : closing (history (trace_of B L)) c ≡ false → length (sent (history (trace_of B L)) c) ≤ length written → length (cut octets) ≤ length tags

-- it waits for octets
pub record Waits (B : Records) (c : ℕ) (old : List (Act × Tag)) (octets written : List ℕ) (L : Log) : Type 0 where
  pub on : GoesOn B c old octets written L
  pub ready : is_ready (trace_of B L) c ≡ true

-- it goes on; or a later part of a message couldn't be read, and the store's count of faults grew
abbrev pub Midway : (before now : ℕ) → Records → ℕ → List (Act × Tag) → (octets written : List ℕ) → Log → Type 0
Midway before now B c old octets written L =
    GoesOn B c old octets written L ⊎ (TalksInPart B c octets written old (acts (trace_of B L)) × (has_grown before now ≡ true))

-- nothing is owed
pub record IsPaid (before now : ℕ) (B : Records) (c : ℕ) (old : List (Act × Tag)) (octets written : List ℕ) (L : Log) : Type 0 where
  pub midway : Midway before now B c old octets written L
  pub nothing : rest (trace_of B L) c ≡ []

-- its last line closed it, and all replies are written; or a part of a message couldn't be read
pub record IsOver (before now : ℕ) (B : Records) (c : ℕ) (old : List (Act × Tag)) (octets written : List ℕ) (L : Log) : Type 0 where
  pub midway : Midway before now B c old octets written L
  pub shut : is_open (trace_of B L) c ≡ false

-- it came to its end: it waits and the source is at its end, or it is over
abbrev pub IsDone : (at_end : Type 0) (before now : ℕ) → Records → ℕ → List (Act × Tag) → (octets written : List ℕ) → Log → Type 0
IsDone at_end before now B c old octets written L =
    (Waits B c old octets written L × at_end) ⊎ IsOver before now B c old octets written L

-- the acts of one that was broken off: without the connection's end, or with it while the connection was still open
abbrev pub AreBroken : Records → ℕ → (written : List ℕ) → (lines : List (Act × Tag)) → Log → Type 0
AreBroken B c written H L =
    ((acts (trace_of B L) ≡ H) × (taken L c ≡ length written))
    ⊎ ((acts (trace_of B L) ≡ (Gone c, Done) ∷ H) × (is_open_by (connected (told B H) c) (closing (told B H) c) (drop (length written) (sent (told B H) c)) ≡ true))

-- a fault breaks it off; `lacked` says that it is want of memory
pub record Breaks (B : Records) (c : ℕ) (old : List (Act × Tag)) (octets written : List ℕ) (lacked : Bool) (L : Log) : Type 0 where
  pub tags : List Tag
  pub spoken_so : List (Act × Tag)
  pub lines : LinesActed B c old octets written tags spoken_so
  pub ample : lacked ≡ false → list_any is_no_memory tags ≡ false
  pub broken : AreBroken B c written spoken_so L

-- which number an outcome of Connect opens, or why none
abbrev pub opened_by : Outcome → Result ℕ TalkFault
opened_by (Opened c) = Ok c
opened_by outcome.NoMemory = Err fault.NoMemory
opened_by _ = Err fault.TooManyConnections

-- whether an outcome is want of memory
abbrev pub memory_by : Outcome → Result Unit TalkFault
memory_by outcome.NoMemory = Err fault.NoMemory
memory_by _ = Ok tt

-- no connection was opened: memory was wanting, or as many are open as may be
pub record Refuses (T : Trace) (e : TalkFault) (L : Log) : Type 0 where
  pub same : acts (trace_of T.base L) ≡ acts T
  pub cause : ((e ≡ fault.NoMemory) × MetLack L) ⊎ ((e ≡ fault.TooManyConnections) × (is_full T ≡ true))

-- how a conversation stands at this fault, before its connection is ended
abbrev pub IsCut : TalkFault → Records → ℕ → List (Act × Tag) → (octets written : List ℕ) → Log → Type 0
IsCut fault.Read B c old octets written L = Waits B c old octets written L
IsCut fault.Write B c old octets written L = Breaks B c old octets written false L
IsCut fault.TooManyConnections B c old octets written L = ⊥
IsCut fault.NoMemory B c old octets written L = Breaks B c old octets written true L × MetLack L
IsCut fault.Endless B c old octets written L = Breaks B c old octets written false L × IsEndless octets written
