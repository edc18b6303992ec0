-- The text itself.
use Rattle.std.proofs.Common.{rules}
use Rattle.creds.proofs.deposit_id.DepositId.as_str.Goals as goal

pub returns : goal.returns
returns c = search rules
