-- What a connection's next line brings before it acts: a QUIT, or a login, which may wait for its
-- maildrop's lock.
use Rattle.std.specs.Prelude.{ℕ, Bool, true, false, not, ◌&&◌, ◌+◌, nat_le, List, if◌then◌else◌}
use Rattle.std.specs.Prelude.{Option, Some, None, Result, is_some}
use Rattle.creds.specs.declared.login_name.LoginName.{LoginName}
use Rattle.popline.specs.Cutting.{Cut, has_newline}
use Rattle.popline.specs.Commands.{Command}
use Rattle.popline.specs.declared.command.LineFault.{LineFault}
use Rattle.office.specs.Connections.{reading, is_quit, user}
use Rattle.office.specs.Sessions.{live, holder}
pub use Rattle.office.specs.Replying.{login_asked}
use Rattle.office.specs.Events.{Trace}
use Rattle.office.specs.Log.{clock, moment}
use Rattle.office.specs.Trace.{history, is_ready, next_line}
use Rattle.office.specs.Kept.{Kept, line_after}
use Rattle.office.specs.declared.brought.Brought.{Brought}
use Rattle.office.specs.declared.brought.Brought.TheVariants.{Nothing, Login, Quit, Other}

-- ---- a line

-- a login is to a maildrop that is held; None, no login, never is
abbrev pub is_held_for : (is_held : List ℕ → Bool) → Option LoginName → Bool
is_held_for is_held None = false
is_held_for is_held (Some name) = is_held name.maildrop

-- a QUIT, or another line
abbrev pub quit_or_other : (is_quit : Bool) → Brought
quit_or_other true = Quit
quit_or_other false = Other

-- a login under this name, or another line
abbrev pub login_or_other : Option LoginName → Brought
login_or_other None = Other
login_or_other (Some name) = Login name

-- what a line brings that reads so: in a session a QUIT, before one a login
abbrev pub brought_by : (live : Bool) → (user : Option LoginName) → Result Command LineFault
    → Brought
brought_by true user r = quit_or_other (is_quit r)
brought_by false user r = login_or_other (login_asked r user)

-- what a connection's next line brings, if one is whole
abbrev pub next_brings : (live : Bool) → (user : Option LoginName) → Option Cut → Brought
next_brings live user None = Nothing
next_brings live user (Some x) = brought_by live user (reading x)

-- whom it would log in
abbrev pub login_in : Brought → Option LoginName
login_in (Login name) = Some name
login_in _ = None

-- it is a QUIT of a session
abbrev pub is_quit_in : Brought → Bool
is_quit_in Quit = true
is_quit_in _ = false

-- ---- over a trace

-- what a connection's next line brings, with this piece; nothing if no octets may come
abbrev pub brings : Trace → ℕ → (piece : List ℕ) → Brought
brings T c piece =
    let G = history T in
    if is_ready T c then next_brings (live G c) (user G c) (next_line T.log G c piece) else Nothing

-- a connection's next line, with this piece, is a login to a maildrop that a session holds, and its
-- last line or taking was less than so many seconds ago
abbrev pub waits : Trace → ℕ → (piece : List ℕ) → (seconds : ℕ) → Bool
waits T c piece seconds =
    is_held_for (λ d. is_some (holder (history T) d)) (login_in (brings T c piece))
    && not (nat_le (clock T.log c + seconds) (moment T.log))

-- ---- by what is kept

-- the line that is whole with this piece, if one is
abbrev pub line_with : Kept → List ℕ → Option Cut
line_with k piece = if has_newline piece then Some (line_after k piece) else None
