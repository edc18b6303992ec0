-- The outcome of the next event: why it is ignored, and which tags it may show.
use Rattle.std.specs.Prelude.{◌≡◌, ◌⊎◌, ⊤, ℕ, Bool, true, false, not, ◌&&◌, ◌||◌, ◌-◌, ◌^◌, ◌==◌}
use Rattle.std.specs.Prelude.{nat_lt, nat_le, List, [], length, take, Option, Some, None, is_some}
use Rattle.std.specs.Prelude.{if◌then◌else◌}
use Rattle.popline.specs.Cutting.{Cut, has_newline}
use Rattle.vault.specs.Records.{Records}
use Rattle.office.specs.History.{Tag, Done, Failed, NoMemory, Entry}
use Rattle.office.specs.Connections.{closing, serving}
use Rattle.office.specs.Replying.{line_may_fail, is_empty}
use Rattle.office.specs.Told.{deposited, administered}
use Rattle.office.specs.Events.{Event, EventTag, Tagged, Log, Trace}
use Rattle.office.specs.Outcomes.{Outcome, Reason, NoSuchConnection, NotReady, PieceTooLong}
use Rattle.office.specs.Outcomes.{TooManyConnections}
use Rattle.office.specs.Log.{next_number}
use Rattle.office.specs.Trace.{next_line, open_numbers_at, rest, is_left, is_open_at, rest_at}
use Rattle.office.specs.Trace.{history, most_lent}
use Rattle.office.specs.Events as event
use Rattle.office.specs.Outcomes as outcome

-- ---- outcomes

-- at most so many connections are open at once
abbrev pub most_open : ℕ
most_open = 64

-- at most so many octets come in one piece
abbrev pub most_in_a_piece : ℕ
most_in_a_piece = 4096

-- the greatest number that a connection may have
abbrev pub most_number : ℕ
most_number = 2 ^ 64 - 1

-- the most connections are open, or no number is left
abbrev pub is_full_at : Log → List Entry → Bool
is_full_at T G =
    nat_le most_open (length (open_numbers_at T G)) || nat_lt most_number (next_number T)

-- the same of a trace
abbrev pub is_full : Trace → Bool
is_full T = is_full_at T.log (history T)

-- this reason, if the test holds
abbrev pub reason_if : Bool → Reason → Option Reason
reason_if true reason = Some reason
reason_if false reason = None

-- why an event is ignored: the first reason that holds; `lent` gives how many octets the office
-- lends a connection
abbrev pub ignored_at : Log → List Entry → (lent : ℕ → ℕ) → Event → Option Reason
ignored_at T G lent event.Connect = reason_if (is_full_at T G) TooManyConnections
ignored_at T G lent (event.Bytes c piece) =
    if not (is_open_at T G c) then Some NoSuchConnection
    else if not (is_empty (rest_at T G c)) then Some NotReady
    else reason_if (nat_lt most_in_a_piece (length piece)) PieceTooLong
ignored_at T G lent (event.Took c octets) =
    if not (is_open_at T G c) then Some NoSuchConnection
    else reason_if (octets == 0 || nat_lt (lent c) octets) NotReady
ignored_at T G lent (event.Gone c) = reason_if (not (is_open_at T G c)) NoSuchConnection
ignored_at T G lent _ = None

-- why the next event of a trace is ignored
abbrev pub ignored : Trace → (lent : ℕ → ℕ) → Event → Option Reason
ignored T lent e = ignored_at T.log (history T) lent e

-- the outcome of an event that isn't ignored and shows this tag
abbrev pub shown_at : Records → Log → List Entry → Event → Tag → Outcome
shown_at B T G e Failed = outcome.Failed
shown_at B T G e NoMemory = outcome.NoMemory
shown_at B T G event.Connect Done = outcome.Opened (next_number T)
shown_at B T G (event.Deposit d class id text) Done =
    outcome.Answered (deposited B G d class id text)
shown_at B T G (event.Admin command) Done = outcome.Answered (administered B G command)
shown_at B T G e Done = outcome.Done

-- the reason is the outcome, if there is one
abbrev pub or_ignored : Option Reason → Outcome → Outcome
or_ignored (Some reason) otherwise = outcome.Ignored reason
or_ignored None otherwise = otherwise

-- an event's outcome: its reason if it is ignored, else by this tag
abbrev pub outcome_of : Trace → (lent : ℕ → ℕ) → Event → Tag → Outcome
outcome_of T lent e t = or_ignored (ignored T lent e) (shown_at T.base T.log (history T) e t)

-- ---- which tags an event may show

-- whether the store may fail at the next line
abbrev pub next_may_fail : Records → List Entry → ℕ → Option Cut → Bool
next_may_fail B G c None = false
next_may_fail B G c (Some x) = line_may_fail B G c x

-- what may come of a Took: `while_left` if something is left to take; `at_next` if nothing is
-- left, unless the connection closes
abbrev pub took_may : (left while_left closing at_next : Bool) → Bool
took_may true while_left closing at_next = while_left
took_may false while_left true at_next = false
took_may false while_left false at_next = at_next

-- the store may fail at lines that need it, at later pages of a message, deposits and commands
abbrev pub may_fail_at : Records → Log → List Entry → Event → Bool
may_fail_at B T G (event.Bytes c piece) =
    has_newline piece && next_may_fail B G c (next_line T G c piece)
may_fail_at B T G (event.Took c octets) = took_may (is_left T G c octets) (serving G c)
    (closing G c) (next_may_fail B G c (next_line T G c []))
may_fail_at B T G (event.Deposit d class id text) = true
may_fail_at B T G (event.Admin command) = true
may_fail_at B T G _ = false

-- These take no memory: a piece without LF; a Took of a part if all that is owed is lent
-- already; a Took of all that is owed, if no line acts then; Gone, Tick and Restart.
abbrev pub may_lack_memory_at : Log → List Entry → Event → Bool
may_lack_memory_at T G event.Connect = true
may_lack_memory_at T G (event.Bytes c piece) = has_newline piece
may_lack_memory_at T G (event.Took c octets) = took_may (is_left T G c octets)
    (nat_lt most_lent (length (rest_at T G c))) (closing G c) (is_some (next_line T G c []))
may_lack_memory_at T G (event.Deposit d class id text) = true
may_lack_memory_at T G (event.Admin command) = true
may_lack_memory_at T G _ = false

-- Done may always be; Failed and NoMemory if the store or memory may fail
abbrev pub may_show_at : Records → Log → List Entry → Event → Tag → Bool
may_show_at B T G e Done = true
may_show_at B T G e Failed = may_fail_at B T G e
may_show_at B T G e NoMemory = may_lack_memory_at T G e

-- which tags the next event of a trace may show
abbrev pub may_show : Trace → Event → Tag → Bool
may_show T e t = may_show_at T.base T.log (history T) e t

-- this is the event's outcome by some tag that it may show
pub record IsOutcome (T : Trace) (lent : ℕ → ℕ) (e : Event) (o : Outcome) : Type 0 where
  pub tag : Tag
  pub may : may_show T e tag ≡ true
  pub is : o ≡ outcome_of T lent e tag

-- ---- what holds of an event, whatever the store does

-- events that ask no store: Connect, Gone, Tick and Restart
abbrev pub asks_no_store : Event → Bool
asks_no_store event.Connect = true
asks_no_store (event.Gone c) = true
asks_no_store (event.Tick now) = true
asks_no_store (event.Restart boot) = true
asks_no_store _ = false

-- Gone, Tick and Restart never fail; of them only Gone may be ignored
abbrev pub Succeeds : Event → Outcome → Type 0
Succeeds (event.Gone c) o = (o ≡ outcome.Done) ⊎ (o ≡ outcome.Ignored NoSuchConnection)
Succeeds (event.Tick now) o = o ≡ outcome.Done
Succeeds (event.Restart boot) o = o ≡ outcome.Done
Succeeds _ o = ⊤

-- ---- transcripts

-- the octets that an event takes: only a Took that wasn't ignored takes some
abbrev pub octets_taken : Trace → Event → EventTag → List ℕ
octets_taken T (event.Took c octets) (Tagged t) = take octets (rest T c)
octets_taken T _ m = []
