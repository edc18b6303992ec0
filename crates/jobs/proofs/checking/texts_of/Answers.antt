use Rattle.std.proofs.Common.{ap, Err, true}
use Rattle.vault.specs.Calls.{has_grown}
use Rattle.converse.proofs.Exporting.{look_refused}
use Rattle.jobs.proofs.checking.texts_of.Goals as goal

pub returns-in-Err-clause-cause : goal.returns-in-Err-clause-cause
returns-in-Err-clause-cause g c = λ d h clean.
    look_refused true (has_grown c.args.vault.now.faults c.receipts.new.self.faults) d.deposits c.in-Err.fault
    (c.in-Err.ensures.done d h clean).answer (λ e. c.in-Err.ensures.counted.cause (ap Err e))
