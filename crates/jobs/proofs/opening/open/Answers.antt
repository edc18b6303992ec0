use Rattle.sqlite_wal.specs.Files.{image_at}
use Rattle.jobs.proofs.RestLemmas.{held_in, new_in}
use Rattle.jobs.proofs.opening.open.Goals as goal

pub returns-clause-held : goal.returns-clause-held
returns-clause-held g c = held_in (image_at g.S.Start) c.open.result c.open.ensures.opened

pub returns-clause-new : goal.returns-clause-new
returns-clause-new g c = new_in (image_at g.S.Start) c.open.result c.open.ensures.opened
