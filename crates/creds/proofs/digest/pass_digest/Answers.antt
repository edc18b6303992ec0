-- The name, a colon, then the password.
use Rattle.std.proofs.Common.{rules}
use Rattle.creds.proofs.digest.pass_digest.Goals as goal

pub returns : goal.returns
returns c = search rules
