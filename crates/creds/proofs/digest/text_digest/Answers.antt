-- The text alone.
use Rattle.std.proofs.Common.{rules}
use Rattle.creds.proofs.digest.text_digest.Goals as goal

pub returns : goal.returns
returns c = search rules
