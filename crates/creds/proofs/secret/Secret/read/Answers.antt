use Rattle.std.proofs.Common.{arith}
use Rattle.creds.proofs.TextLemmas.{IsAscii-secret}
use Rattle.creds.proofs.secret.Secret.read.Goals as goal

pub new-requires : goal.new-requires
new-requires c = (omega arith, (omega arith, IsAscii-secret c.args.text.now cc))
