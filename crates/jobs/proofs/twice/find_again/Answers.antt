use Rattle.std.proofs.Common.{refl}
use Rattle.jobs.specs.Sittings.{holds}
use Rattle.jobs.proofs.JobLemmas.{all_clean, keeps_on}
use Rattle.jobs.proofs.twice.find_again.Goals as goal

pub returns-in-Ok : goal.returns-in-Ok
returns-in-Ok c =
    let clean = all_clean c.in-Ok.again.conn (λ d. refl) in
    record { kept = λ T k. keeps_on (holds c.args.vault) (holds c.in-Ok.again) T (λ b h. c.in-Ok.ensures.held b clean h) k }
