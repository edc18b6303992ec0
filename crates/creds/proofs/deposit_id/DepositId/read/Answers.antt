use Rattle.std.proofs.Common.{arith}
use Rattle.creds.proofs.TextLemmas.{IsAscii-deposit_id}
use Rattle.creds.proofs.deposit_id.DepositId.read.Goals as goal

pub new-requires : goal.new-requires
new-requires c = (omega arith, (omega arith, IsAscii-deposit_id c.args.text.now cc))
