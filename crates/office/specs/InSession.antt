-- Who is in session, by what an office keeps of its connections.
use Rattle.std.specs.Prelude.{ℕ, Option, Some, None}
use Rattle.creds.specs.declared.login_name.LoginName.{LoginName}
use Rattle.session.specs.Session.{Session}
use Rattle.office.specs.Kept.{Kept}
use Rattle.office.specs.Told.{session_row}

-- who is in a session
abbrev pub name_of : Option Session → Option LoginName
name_of None = None
name_of (Some s) = Some s.name

-- who is in session on a connection
abbrev pub name_at : Option Kept → Option LoginName
name_at None = None
name_at (Some k) = name_of k.session

-- a connection's number with who is in session on it, if somebody is
abbrev pub kept_row : ℕ × Kept → Option (ℕ × LoginName)
kept_row entry = session_row entry.0 (name_of entry.1.session)
