use Rattle.std.proofs.Common.{refl}
use Rattle.office.specs.Stands.{vault_of}
use Rattle.jobs.proofs.JobLemmas.{all_clean}
use Rattle.jobs.proofs.twice.seat.Goals as goal

pub returns-in-Ok : goal.returns-in-Ok
returns-in-Ok c = record { stands = λ T k. c.in-Ok.ensures.opened T k (all_clean (vault_of c.in-Ok.office).conn (λ d. refl)) }
