-- The timestamp, then the secret.
use Rattle.std.proofs.Common.{rules}
use Rattle.creds.proofs.digest.apop_digest.Goals as goal

pub returns : goal.returns
returns c = search rules
