-- The commands of a session whose reply is one line, made without the store.
use Rattle.std.specs.Prelude.{Bool, true, false}
use Rattle.popline.specs.Commands.{Command, Capa, User, Pass, Apop, Quit, Stat, ListAll, ListOne}
use Rattle.popline.specs.Commands.{UidlAll, UidlOne, Retr, Top, Dele, Rset, Noop}

-- the commands that list no messages and ask no store
abbrev pub is_told : Command → Bool
is_told ListAll = false
is_told UidlAll = false
is_told (Retr n) = false
is_told (Top n k) = false
is_told Quit = false
is_told Capa = true
is_told (User name) = true
is_told (Pass password) = true
is_told (Apop name digest) = true
is_told Stat = true
is_told (ListOne n) = true
is_told (UidlOne n) = true
is_told (Dele n) = true
is_told Rset = true
is_told Noop = true
