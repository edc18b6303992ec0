use Rattle.sqlite_wal.specs.Files.{image_at}
use Rattle.jobs.proofs.JobLemmas.{file_left, new_left}
use Rattle.jobs.proofs.running.open_do_close.Goals as goal

pub returns-in-Ok-clause-left : goal.returns-in-Ok-clause-left
returns-in-Ok-clause-left g c =
    file_left (g.J.Job.tells c.args.job) (λ T U n m. g.J.Job.does c.args.job T U n m c.do_and_close.result.0)
    (image_at g.S.Start) c.in-Ok.vault.conn c.in-Ok.vault.faults c.do_and_close.result.1 c.in-Ok.ensures.held c.in-Ok.ensures.uncounted c.do_and_close.ensures.left c.do_and_close.ensures.clean

pub returns-in-Ok-clause-new : goal.returns-in-Ok-clause-new
returns-in-Ok-clause-new g c = new_left (g.J.Job.tells c.args.job) (λ T U n m. g.J.Job.does c.args.job T U n m c.do_and_close.result.0)
    (image_at g.S.Start) c.in-Ok.vault.conn c.in-Ok.vault.faults c.do_and_close.result.1 c.in-Ok.ensures.new c.in-Ok.ensures.uncounted c.do_and_close.ensures.left c.do_and_close.ensures.clean
