use Rattle.sqlite.specs.Files.{file_state}
use Rattle.sqlvault.specs.Stands.{Holds}
use Rattle.jobs.proofs.JobLemmas.{job_left, job_clean, keeps_on}
use Rattle.jobs.proofs.running.do_and_close.Goals as goal

pub returns-clause-left : goal.returns-clause-left
returns-clause-left g c = job_left (g.J.Job.tells c.args.job)
    (λ T U n m. g.J.Job.does c.args.job T U n m c.run-answer.result.0) c.args.vault.conn c.into_vault-vault.result.conn c.args.vault.faults
    c.run-answer.result.1.vault.faults c.close.result
    (λ tells T k clean.
    let was = c.into_vault-vault.ensures.clean clean in
    let did = rw c.new.ensures at (c.run-answer.ensures.done tells T (rw c.new.ensures k) was) in
    (did.0, did.1, keeps_on _ (Holds (file_state c.into_vault-vault.result.conn)) did.0 (λ x h. c.into_vault-vault.ensures.held x h clean) did.2))
    c.close.ensures.rests c.close.ensures.clean

pub returns-clause-clean : goal.returns-clause-clean
returns-clause-clean g c = job_clean (g.J.Job.tells c.args.job)
    (λ T U n m. g.J.Job.does c.args.job T U n m c.run-answer.result.0) c.args.vault.conn c.into_vault-vault.result.conn c.close.result
    (λ tells clean. rw c.new.ensures at (c.run-answer.ensures.clean tells (c.into_vault-vault.ensures.clean clean))) c.close.ensures.clean
