use Rattle.std.proofs.Common.{arith}
use Rattle.creds.proofs.TextLemmas.{IsAscii-host}
use Rattle.creds.proofs.host_name.HostName.read.Goals as goal

pub new-requires : goal.new-requires
new-requires c = (omega arith, (omega arith, IsAscii-host c.args.text.now cc))
