use Rattle.std.proofs.Common.{[], sym, ap}
use Rattle.serving.specs.Noted.{told_of}
use Rattle.serving.proofs.Noting.{fresh}
use Rattle.serving.proofs.noted_wire.NotedWire.new.Goals as goal

pub returns-clause-fresh : goal.returns-clause-fresh
returns-clause-fresh g c =
    (told_of [], (sym (ap told_of c.new-2.ensures), (ap (λ k. k.clients) c.new.ensures, ap (λ k. k.requests) c.new.ensures)), (fresh, fresh))
