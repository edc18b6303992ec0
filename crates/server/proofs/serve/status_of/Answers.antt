use Rattle.std.proofs.Common.{Ok, Err}
use Rattle.server.specs.Served.{IsAsAnswered, IsLost}
use Rattle.server.proofs.serve.status_of.Goals as goal

pub returns-in-Some : goal.returns-in-Some
returns-in-Some g c = rw (c.in-Ok.is, c.tell_loss.ensures) (IsLost c.in-Ok.status)

pub returns-in-None : goal.returns-in-None
returns-in-None g c = rw c.in-Ok.is (IsAsAnswered (Ok c.in-Ok.status))

pub returns-in-Err : goal.returns-in-Err
returns-in-Err g c = rw c.in-Err.is (IsAsAnswered (Err c.in-Err.fault))
