use Rattle.std.proofs.Common.{ap}
use Rattle.serving.specs.NotedFiles.{acts_of}
use Rattle.serving.proofs.noted_spool.NotedSpool.new.Goals as goal

pub returns-clause-fresh : goal.returns-clause-fresh
returns-clause-fresh g c = ap acts_of c.new.ensures
