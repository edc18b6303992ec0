use Rattle.std.proofs.Common.{false}
use Rattle.converse.proofs.Exporting.{put_cause}
use Rattle.converse.proofs.export.settle.Goals as goal

pub returns-in-Err-clause-cause : goal.returns-in-Err-clause-cause
returns-in-Err-clause-cause g c = put_cause _ false (λ _. ⊥) _ c.put_fault.ensures.cause c.in-Err.ensures.counted.1
