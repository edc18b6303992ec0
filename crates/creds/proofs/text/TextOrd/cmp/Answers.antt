-- The order of the octets.
use Rattle.std.proofs.Common.{rules}
use Rattle.creds.proofs.text.TextOrd.cmp.Goals as goal

pub returns : goal.returns
returns g c = search rules
