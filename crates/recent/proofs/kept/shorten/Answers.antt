-- The first ones are left.
use Rattle.recent.proofs.Keeping.{taken_fits}
use Rattle.recent.proofs.kept.shorten.Goals as goal

pub returns-clause-fits : goal.returns-clause-fits
returns-clause-fits c d h = rw c.truncate.ensures.items (taken_fits _ _ d h)
