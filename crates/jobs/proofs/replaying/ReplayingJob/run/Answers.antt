use Rattle.converse.specs.Runs.{opened_on}
use Rattle.jobs.proofs.CommandLemmas.{replayed}
use Rattle.jobs.proofs.replaying.ReplayingJob.run.Goals as goal

pub returns-clause-done : goal.returns-clause-done
returns-clause-done g c = λ tells T k clean.
    (let x = c.replay-status in
    let job = c.args.self in
    let opened = opened_on T job.host.now job.boot job.removals in
    replayed g.V.Vault.holds x.result.1 (g.R.Read.remaining job.script) (g.W.Write.contents job.out) (g.W.Write.contents x.new.out) (g.W.Printer.flushed x.new.out) x.result.0
    (g.V.Vault.faults c.args.vault) (g.V.Vault.faults x.result.1) T opened x.ensures.status x.ensures.flushed
    (λ well. (let r = x.ensures.ran well in (r.0, r.1, r.2 T k clean))) (x.ensures.kept T k clean))

pub returns-clause-clean : goal.returns-clause-clean
returns-clause-clean g c = λ tells clean. c.replay-status.ensures.clean clean
