-- The text itself.
use Rattle.std.proofs.Common.{rules}
use Rattle.creds.proofs.name.Name.as_str.Goals as goal

pub returns : goal.returns
returns c = search rules
