use Rattle.std.proofs.Common.{arith}
use Rattle.creds.proofs.TextLemmas.{IsAscii-name}
use Rattle.creds.proofs.name.Name.read.Goals as goal

pub new-requires : goal.new-requires
new-requires c = (omega arith, (omega arith, IsAscii-name c.args.text.now cc))
