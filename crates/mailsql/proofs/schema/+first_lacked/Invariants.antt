-- what is left
use Rattle.std.proofs.Common.{length}
use Rattle.mailsql.proofs.schema.+first_lacked.Given as goal

abbrev pub decreases-first_lacked : goal.decreases-first_lacked
decreases-first_lacked l = length l.found.now
