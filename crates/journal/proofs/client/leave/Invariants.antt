-- The clients so far are done, and the others are as they were.
use Rattle.std.proofs.Common.{◌≡◌, ◌++◌, take, drop}
use Rattle.std.specs.Prelude.{map}
use Rattle.journal.specs.Sessions.{left_client}
use Rattle.journal.proofs.client.leave.Given as goal

abbrev pub invariant-loop-client : goal.invariant-loop-client
invariant-loop-client l = l.clients ≡ map (left_client l.maildrop) (take l.client-index l.initial.clients) ++ drop l.client-index l.initial.clients
