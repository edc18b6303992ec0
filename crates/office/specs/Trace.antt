-- The acts that a list of events gives rise to, and what each connection is still owed.
use Rattle.std.specs.Prelude.{◌≡◌, ℕ, Bool, true, false, not, ◌&&◌, ◌+◌, ◌≤◌, nat_lt, nat_le, List}
use Rattle.std.specs.Prelude.{[], ◌∷◌, ◌++◌, length, take, drop, min, max, filter, Option, Some}
use Rattle.std.specs.Prelude.{None, slice_get}
use Rattle.std.specs.List.{range_with_len}
use Rattle.popline.specs.Cutting.{Cut, cut, has_newline}
use Rattle.vault.specs.Records.{Records}
use Rattle.office.specs.History.{Act, Open, Line, Gone, Idle, Deposit, Administer, Restart, Tag}
use Rattle.office.specs.History.{Done, Failed, NoMemory, Entry}
use Rattle.office.specs.Connections.{setting, judging, connected, closing, acted, serving, sent}
use Rattle.office.specs.Told.{told}
use Rattle.office.specs.Replying.{is_empty}
use Rattle.office.specs.Events.{Event, EventTag, Ignored, Tagged, Log, Trace}
use Rattle.office.specs.Log.{opened, clock, idle_seconds, next_number, taken, stream, moment}
use Rattle.office.specs.Events as event

-- ---- what events and their history say: T is the events, G the history of their acts

-- the octets that a connection was sent and hasn't taken
abbrev pub untaken : Log → List Entry → ℕ → List ℕ
untaken T G c = drop (taken T c) (sent G c)

-- a connection is open while it is connected; one that closes, until all is taken
abbrev pub is_open_by : (connected closing : Bool) → (untaken : List ℕ) → Bool
is_open_by connected closing untaken = connected && not (closing && is_empty untaken)

-- a connection is open, by the log and its history
abbrev pub is_open_at : Log → List Entry → ℕ → Bool
is_open_at T G c = is_open_by (connected G c) (closing G c) (untaken T G c)

-- the numbers of the open connections, ascending
abbrev pub open_numbers_at : Log → List Entry → List ℕ
open_numbers_at T G = filter (is_open_at T G) (range_with_len 1 (opened T))

-- the numbers of those that have done nothing for the idle seconds at this moment
abbrev pub idle_numbers : Log → List Entry → (moment : ℕ) → List ℕ
idle_numbers T G moment =
    filter (λ c. nat_le (clock T c + idle_seconds T) moment) (open_numbers_at T G)

-- a connection's next line, with this piece after what came before
abbrev pub next_line : Log → List Entry → ℕ → (piece : List ℕ) → Option Cut
next_line T G c piece = slice_get (cut (stream T c ++ piece)) (acted G c)

-- something is left to take after so many octets more
abbrev pub is_left : Log → List Entry → ℕ → ℕ → Bool
is_left T G c octets = nat_lt (taken T c + octets) (length (sent G c))

-- ---- acts of a trace

-- the act of a line, if one is next
abbrev pub line_act : ℕ → Tag → Option Cut → List (Act × Tag)
line_act c t None = []
line_act c t (Some x) = (Line c x, t) ∷ []

-- a connection goes
abbrev pub gone_act : ℕ → List (Act × Tag)
gone_act c = (Gone c, Done) ∷ []

-- A taking of a part ends the connection at want of memory, and if a later page of a message
-- can't be read.
abbrev pub act_of_part : (serving : Bool) → ℕ → Tag → List (Act × Tag)
act_of_part serving c NoMemory = gone_act c
act_of_part true c Failed = gone_act c
act_of_part _ c _ = []

-- Taking all lets the next line act, unless the connection is closing.
abbrev pub act_of_all : (closing : Bool) → ℕ → Tag → Option Cut → List (Act × Tag)
act_of_all true c t next = []
act_of_all false c t next = line_act c t next

-- the act of a taking, of a part or of all
abbrev pub acts_of_took : (left serving closing : Bool) → ℕ → Tag → Option Cut → List (Act × Tag)
acts_of_took true serving closing c t next = act_of_part serving c t
acts_of_took false serving closing c t next = act_of_all closing c t next

-- a piece with a LF lets the next line act; one without is only kept
abbrev pub acts_of_piece : (has_line : Bool) → ℕ → Tag → Option Cut → List (Act × Tag)
acts_of_piece true c t next = line_act c t next
acts_of_piece false c t next = []

-- a connection opens, if the event is Done
abbrev pub open_act : ℕ → Tag → List (Act × Tag)
open_act next Done = (Open next, Done) ∷ []
open_act next _ = []

-- each of these connections is ended; the lower number first, so that it stands last
abbrev pub idle_acts : List ℕ → List (Act × Tag)
idle_acts [] = []
idle_acts (c ∷ numbers) = idle_acts numbers ++ (Idle c, Done) ∷ []

-- the acts of an event that shows this tag, the newest first
abbrev pub acts_of : Log → List Entry → Event → Tag → List (Act × Tag)
acts_of T G (event.Start host boot limits) t = (Restart boot host limits.removals, t) ∷ []
acts_of T G event.Connect t = open_act (next_number T) t
acts_of T G (event.Bytes c piece) t = acts_of_piece (has_newline piece) c t (next_line T G c piece)
acts_of T G (event.Took c octets) t =
    acts_of_took (is_left T G c octets) (serving G c) (closing G c) c t (next_line T G c [])
acts_of T G (event.Gone c) t = (Gone c, t) ∷ []
acts_of T G (event.Tick now) t = idle_acts (idle_numbers T G (max (moment T) now))
acts_of T G (event.Deposit d class id text) t = (Deposit d class id text, t) ∷ []
acts_of T G (event.Admin command) t = (Administer command, t) ∷ []
acts_of T G (event.Restart boot) t = (Restart boot (setting G).1 (judging G), t) ∷ []

-- the acts of an event, none if it was ignored
abbrev pub acts_at : Log → List Entry → Event → EventTag → List (Act × Tag)
acts_at T G e Ignored = []
acts_at T G e (Tagged t) = acts_of T G e t

-- the acts of all events
abbrev pub acts_from : Records → Log → List (Act × Tag)
acts_from B [] = []
acts_from B ((e, m) ∷ T) = acts_at T (told B (acts_from B T)) e m ++ acts_from B T

-- the acts of a trace
abbrev pub acts : Trace → List (Act × Tag)
acts T = acts_from T.base T.log

-- the history of a trace
abbrev pub history : Trace → List Entry
history T = told T.base (acts T)

-- ---- what is owed

-- a connection is open at the end of a trace
abbrev pub is_open : Trace → ℕ → Bool
is_open T c = is_open_at T.log (history T) c

-- the numbers of the open connections, ascending
abbrev pub open_numbers : Trace → List ℕ
open_numbers T = open_numbers_at T.log (history T)

-- what a connection is still owed: nothing, once it is ended
abbrev pub rest_if : (is_open : Bool) → List ℕ → List ℕ
rest_if true untaken = untaken
rest_if false untaken = []

-- what a connection is still owed, by the log and its history
abbrev pub rest_at : Log → List Entry → ℕ → List ℕ
rest_at T G c = rest_if (is_open_at T G c) (untaken T G c)

-- what a connection is still owed at the end of a trace
abbrev pub rest : Trace → ℕ → List ℕ
rest T c = rest_at T.log (history T) c

-- a connection is open, and nothing is owed to it
abbrev pub is_ready : Trace → ℕ → Bool
is_ready T c = is_open T c && is_empty (rest T c)

-- at most so many octets are lent, and so many stand ready if they are owed
abbrev pub most_lent : ℕ
most_lent = 16384

-- what is lent of the rest that is owed: a beginning of it, of at least 512 octets or all
pub record IsLent (rest lent : List ℕ) : Type 0 where
  pub beginning : lent ≡ take (length lent) rest
  pub enough : min (length rest) 512 ≤ length lent
