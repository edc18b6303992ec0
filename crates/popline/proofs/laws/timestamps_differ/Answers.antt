use Rattle.popline.proofs.Timestamps.{timestamps_differ}
use Rattle.popline.proofs.laws.timestamps_differ.Goals as goal

pub returns : goal.returns
returns c = timestamps_differ
