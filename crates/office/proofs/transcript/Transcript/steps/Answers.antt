use Rattle.std.proofs.Common.{rules}
use Rattle.office.proofs.transcript.Transcript.steps.Goals as goal

pub returns : goal.returns
returns c = search rules
