-- Logging in, as a trace has it: how often a connection was refused, and whom a piece of its
-- octets would log in.
use Rattle.std.specs.Prelude.{ℕ, Bool, List, min, Option, is_some, if◌then◌else◌}
use Rattle.creds.specs.declared.login_name.LoginName.{LoginName}
use Rattle.office.specs.Connections.{failures}
use Rattle.office.specs.Events.{Trace}
use Rattle.office.specs.Trace.{history, is_open}
use Rattle.office.specs.Kept.{most_failures}
use Rattle.office.specs.Waiting.{brings, login_in}

-- how many credentials an open connection had refused since it opened
abbrev pub refusals : Trace → ℕ → ℕ
refusals T c = if is_open T c then min (failures (history T) c) most_failures else 0

-- whom a connection's next line would log in, with this piece; nobody if no octets may come
abbrev pub login_brought : Trace → ℕ → (piece : List ℕ) → Option LoginName
login_brought T c piece = login_in (brings T c piece)

-- its next line is a login
abbrev pub brings_login : Trace → ℕ → (piece : List ℕ) → Bool
brings_login T c piece = is_some (login_brought T c piece)
