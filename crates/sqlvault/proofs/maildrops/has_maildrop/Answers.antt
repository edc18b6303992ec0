use Rattle.sqlvault.proofs.SeesLemmas.{learns}
use Rattle.sqlvault.proofs.maildrops.has_maildrop.Goals as goal

pub returns : goal.returns
returns g c = learns c.find_maildrop.ensures.sees
