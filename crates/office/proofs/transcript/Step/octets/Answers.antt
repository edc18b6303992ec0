use Rattle.std.proofs.Common.{rules}
use Rattle.office.proofs.transcript.Step.octets.Goals as goal

pub returns : goal.returns
returns c = search rules
