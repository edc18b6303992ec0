use Rattle.std.proofs.Common.{◌≡◌, ◌++◌, map}
use Rattle.std.specs.List.{filter_map}
use Rattle.office.specs.Seen.{session_seen}
use Rattle.office.specs.InSession.{kept_row}
use Rattle.office.proofs.sessions.sessions_of.Given as goal

abbrev pub invariant-loop-number : goal.invariant-loop-number
invariant-loop-number l = map session_seen l.rows.items ++ filter_map kept_row l.number-iterator ≡ filter_map kept_row l.connections.entries
