use Rattle.std.proofs.Common.{refl}
use Rattle.jobs.proofs.JobLemmas.{all_clean, unused_kept}
use Rattle.jobs.proofs.RestLemmas.{unmade}
use Rattle.jobs.proofs.twice.make.Goals as goal

pub returns-in-Ok : goal.returns-in-Ok
returns-in-Ok c =
    let clean = all_clean c.in-Ok.vault.conn (λ d. refl) in
    record { kept = unused_kept _ (c.in-Ok.ensures.new clean (unmade _ c.new.ensures.empty c.new-2.ensures.empty)) }
