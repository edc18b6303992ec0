use Rattle.std.proofs.Common.{◌++◌, ap, ◌∙◌, inr}
use Rattle.serving.proofs.sockets.Place.read.Goals as goal

pub returns-clause-ahead : goal.returns-clause-ahead
returns-clause-ahead c =
    inr (ap (λ xs. xs ++ c.read.new.self) (c.counted.ensures.shown c.read.new.buffer) ∙ c.read.ensures.read)
