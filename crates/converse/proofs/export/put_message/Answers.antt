use Rattle.std.proofs.Common.{false}
use Rattle.converse.proofs.Exporting.{put_cause}
use Rattle.converse.proofs.export.put_message.Goals as goal

pub returns-clause-cause : goal.returns-clause-cause
returns-clause-cause g c = put_cause _ false _ _ c.put_fault.ensures.cause c.in-Err.ensures.counted.1
