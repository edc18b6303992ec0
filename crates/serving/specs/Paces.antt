-- Logins that are kept back: what comes on a link stays unread, or is read a line at a time.
use Rattle.std.specs.Prelude.{ℕ, Bool, true, false, not, ◌&&◌, ◌||◌, ◌==◌, nat_lt, List, length}
use Rattle.std.specs.Prelude.{position, suc, Option, Some, None, is_some}
use Rattle.creds.specs.declared.login_name.LoginName.{LoginName}
use Rattle.office.specs.Events.{Trace}
use Rattle.office.specs.Waiting.{waits}
use Rattle.office.specs.Logins.{login_brought}
use Rattle.serving.specs.Guesses.{holds_back, refusal_of}
use Rattle.serving.specs.declared.guesses.Refusal.{Refusal}
use Rattle.serving.specs.declared.pace.Pace.{Pace}

-- lines are read one at a time before a login: logins wait for locks, a session ended in this turn,
-- or the client counts by an origin, since guesses are slow
abbrev pub reads_lines : (wait : ℕ) (lock_released : Bool) (origin : Option ℕ) → Bool
reads_lines wait lock_released origin = (not (wait == 0) || lock_released) || is_some origin

-- a login of an origin is kept back after a refusal of the same name; none if no origin counts
abbrev pub is_paced : (now : ℕ) → (origin : Option ℕ) → LoginName → List Refusal → Bool
is_paced now None name refusals = false
is_paced now (Some origin) name refusals = holds_back now (refusal_of origin name refusals)

-- for how many seconds a login is kept back after refusals at most, however many come meanwhile
abbrev pub most_paced : ℕ
most_paced = 15

-- A login is kept back, whatever its maildrop: after a session that ended in this turn, so that in
-- the next turn those who wait for its maildrop are tried by number; or after a refusal.
abbrev pub keeps : Pace → List Refusal → (login : Option LoginName) → Bool
keeps pace refusals None = false
keeps pace refusals (Some name) = pace.is_shut
    || (nat_lt pace.waited most_paced && is_paced pace.now pace.origin name refusals)

-- a session ended, if logins wait
abbrev pub releases_lock : (wait : ℕ) → (was_logged_in is_logged_in : Bool) → Bool
releases_lock wait was_logged_in is_logged_in = not (wait == 0) && (was_logged_in && not is_logged_in)

-- a piece stays unread: its next line is a login that waits for its lock, or is kept back
abbrev pub is_held : Trace → (connection : ℕ) → (piece : List ℕ) → Pace → List Refusal → Bool
is_held T connection piece pace refusals =
    waits T connection piece pace.wait || keeps pace refusals (login_brought T connection piece)

-- how many octets the first line of a piece has, with its LF; all, if it has none
abbrev pub line_by : (newline : Option ℕ) → (all : ℕ) → ℕ
line_by None all = all
line_by (Some at) all = suc at

abbrev pub first_line : List ℕ → ℕ
first_line piece = line_by (position (λ b. b == 10) piece) (length piece)

-- how many octets of a piece are read: none if it is held, and else its first line
abbrev pub part_by : (is_held : Bool) → (piece : List ℕ) → ℕ
part_by true piece = 0
part_by false piece = first_line piece
