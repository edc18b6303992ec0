use Rattle.converse.specs.Runs.{opened_on}
use Rattle.jobs.proofs.CommandLemmas.{conversed}
use Rattle.jobs.proofs.talking.TalkingJob.run.Goals as goal

pub returns-clause-done : goal.returns-clause-done
returns-clause-done g c = λ tells T k clean.
    (let x = c.talk_over_store-status in
    let job = c.args.self in
    let d = x.ensures.talked in
    let opened = opened_on T job.host.now job.boot job.removals in
    conversed g.V.Vault.holds x.result.1 (g.R.Source.seen job.reader) (g.R.Source.seen x.new.reader) (g.W.Sink.seen job.writer) (g.W.Sink.seen x.new.writer) x.result.0
    (g.V.Vault.faults c.args.vault) (g.V.Vault.faults x.result.1) T opened d.octets d.written d.read d.wrote x.ensures.status d.flushed
    (λ well. d.well well T k clean) (λ ill. d.ill ill T k clean))

pub returns-clause-clean : goal.returns-clause-clean
returns-clause-clean g c = λ tells clean. c.talk_over_store-status.ensures.talked.clean clean
