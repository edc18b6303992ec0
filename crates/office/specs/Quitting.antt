-- A QUIT that comes: whether a piece of a connection's octets brings one of its session, and
-- whether it may remove many messages.
use Rattle.std.specs.Prelude.{ℕ, Bool, true, false, ◌&&◌, nat_lt, List, length}
use Rattle.std.specs.Prelude.{Option, Some, None, Result, Err}
use Rattle.vault.specs.declared.answer.Head.{Head}
use Rattle.session.specs.declared.pick.Pick.{Pick}
use Rattle.session.specs.declared.pick.Pick.TheVariants.{NoSuch}
use Rattle.session.specs.Session.{Session}
use Rattle.session.specs.View.{marked}
use Rattle.office.specs.Sessions.{live, marks, view}
use Rattle.office.specs.Events.{Trace}
use Rattle.office.specs.Trace.{history}
use Rattle.office.specs.Waiting.{brings, is_quit_in}

-- with this piece, a connection's next line is a QUIT of its session; no if no octets may come
abbrev pub brings_quit : Trace → ℕ → (piece : List ℕ) → Bool
brings_quit T c piece = is_quit_in (brings T c piece)

-- a reference to a number finds a message, even a marked one
abbrev pub is_found : Result Head Pick → Bool
is_found (Err NoSuch) = false
is_found _ = true

-- so many messages are many: more than are removed at once
abbrev pub are_many : ℕ → Bool
are_many n = nat_lt 128 n

-- a session sees many messages
abbrev pub sees_many_in : Option Session → Bool
sees_many_in None = false
sees_many_in (Some s) = are_many (length s.view)

-- a session has marked many messages
abbrev pub marks_many_in : Option Session → Bool
marks_many_in None = false
marks_many_in (Some s) = are_many (length (marked s.marks s.view))

-- somebody is in session on a connection and sees many messages
abbrev pub sees_many : Trace → ℕ → Bool
sees_many T c = let G = history T in live G c && are_many (length (view T.base G c))

-- somebody is in session on a connection and has marked many messages
abbrev pub marks_many : Trace → ℕ → Bool
marks_many T c =
    let G = history T in
    live G c && are_many (length (marked (marks G c) (view T.base G c)))

-- with this piece, a connection's next line is a QUIT of its session, which has marked many
-- messages
abbrev pub brings_long_quit : Trace → ℕ → (piece : List ℕ) → Bool
brings_long_quit T c piece = brings_quit T c piece && marks_many T c
