use Rattle.std.proofs.Common.{refl, subst}
use Rattle.vault.specs.Calls.{seen_as}
use Rattle.vault.specs.Changes.{totals, records_of}
use Rattle.office.specs.Sessions.{records}
use Rattle.office.specs.Trace.{history}
use Rattle.jobs.specs.Commands.{IsLook}
use Rattle.jobs.proofs.JobLemmas.{keeps_on, looked}
use Rattle.jobs.proofs.CommandLemmas.{looked_so, refused_so, totals_agree}
use Rattle.jobs.proofs.looking.LookingJob.run.Goals as goal

pub returns-clause-done : goal.returns-clause-done
returns-clause-done g c = λ tells T k clean.
    (let x = c.maildrops-totals in
    let first = g.V.Vault.faults c.args.vault in
    let last = g.V.Vault.faults x.new.self in
    let answered = seen_as x.result (λ found. found.items) in
    let did = x.ensures.done k.contents k.held clean in
    let look = looked_so (totals (records_of k.contents)) first last answered did.answer (λ e. x.ensures.looks.counted.cause (refused_so x.result (λ found. found.items) _ e)) in (
      T,
      (refl, subst (λ these. IsLook these first last answered) (totals_agree (records_of k.contents) (records T.base (history T)) k.agree) look),
      keeps_on (g.V.Vault.holds c.args.vault) (g.V.Vault.holds x.new.self) T (λ b h. looked (g.V.Vault.holds x.new.self) b _ _ (x.ensures.done b h clean)) k,
    ))

pub returns-clause-clean : goal.returns-clause-clean
returns-clause-clean g c = λ tells clean. c.maildrops-totals.ensures.looks.clean clean
