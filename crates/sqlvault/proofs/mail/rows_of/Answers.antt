use Rattle.sqlvault.proofs.SeesLemmas.{learns}
use Rattle.sqlvault.proofs.mail.rows_of.Goals as goal

pub returns : goal.returns
returns g c = learns c.find_rows.ensures.sees
