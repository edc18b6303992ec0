use Rattle.std.proofs.Common.{refl}
use Rattle.jobs.proofs.JobLemmas.{all_clean}
use Rattle.jobs.proofs.twice.sit.Goals as goal

pub returns-in-Ok : goal.returns-in-Ok
returns-in-Ok c = record { kept = λ T k. c.in-Ok.ensures.done T k (all_clean c.in-Ok.sat.1.conn (λ d. refl)) }
