-- The clerk stands in front of the slash, the maildrop after it.
use Rattle.std.proofs.Common.{arith}
use Rattle.std.proofs.lemmas.Grind.{common_steps}
use Rattle.creds.specs.LoginName.{login_name}
use Rattle.creds.proofs.login_name.LoginName.read.Goals as goal

pub returns : goal.returns
unfolding login_name
returns c = grind (arith, common_steps)
