use Rattle.std.proofs.Common.{Err, Some, refl}
use Rattle.vault.specs.declared.answer.Progress.{Progress}
use Rattle.sqlvault.specs.declared.work.Work.TheVariants as works
use Rattle.sqlvault.proofs.FrameLemmas.{passed}
use Rattle.sqlvault.proofs.UnderWayLemmas.{prepares_own, prepares_then}
use Rattle.sqlvault.proofs.StopLemmas.{refusal_not_own}
use Rattle.sqlvault.proofs.AheadLemmas.{step_told, counts_told, none_told, counts_of}
use Rattle.sqlvault.proofs.ahead.Ahead.start_deposit.Goals as goal

pub returns-in_err-coming-clause-prepares : goal.returns-in_err-coming-clause-prepares
returns-in_err-coming-clause-prepares g c = rw (passed c.from_residual.ensures.1)
    (λ none. step_told g.S.Store c.self.inside.work c.self.view_is (none_told c.self.view_is none)
    (prepares_own (λ own. absurd (refusal_not_own Progress c.in_err-coming.field-0.0 c.in_err-coming.ensures.step own)) c.in_err-coming.ensures.prepares))

pub returns-in_err-coming-clause-counted : goal.returns-in_err-coming-clause-counted
returns-in_err-coming-clause-counted g c = rw (passed c.from_residual.ensures.1)
    (counts_told c.start_deposit.new.self.faults (Err c.in_err-coming.field-0.0) c.self.view_is
    (counts_of c.self.inside.vault.faults c.start_deposit.new.self.faults c.in_err-coming.field-0.0 c.in_err-coming.ensures.counted))

pub returns-in-Some-clause-prepares : goal.returns-in-Some-clause-prepares
returns-in-Some-clause-prepares g c none =
    prepares_then
    (step_told g.S.Store (Some (works.Deposit c.in-Some.coming)) c.self.view_is refl
    (rw c.in-Some.is at c.in_ok-coming.ensures.prepares))
    (c.put_more.ensures.prepares (none_told c.self.view_is none))
