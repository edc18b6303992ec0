use Rattle.std.proofs.Common.{Err, Some, [], ap}
use Rattle.sqlvault.specs.Removals.{Removal}
use Rattle.sqlvault.specs.declared.work.Work.TheVariants as works
use Rattle.sqlvault.proofs.FrameLemmas.{passed}
use Rattle.sqlvault.proofs.UnderWayLemmas.{prepares_then}
use Rattle.sqlvault.proofs.AheadLemmas.{prepares_refused, step_told, counts_told, none_told, counts_as}
use Rattle.vault.specs.declared.answer.Progress.{Progress}
use Rattle.sqlvault.proofs.ahead.Ahead.start.Goals as goal

pub returns-in_err-begin_removal-clause-prepares : goal.returns-in_err-begin_removal-clause-prepares
returns-in_err-begin_removal-clause-prepares g c = rw (passed c.from_residual.ensures.1)
    (λ none. step_told g.S.Store c.self.inside.work c.self.view_is (none_told c.self.view_is none)
    (prepares_refused Progress c.in_err-begin_removal.field-0.0 c.in_err-begin_removal.ensures.answer (c.in_err-begin_removal.ensures.prepares [] [])))

pub returns-in_err-begin_removal-clause-counted : goal.returns-in_err-begin_removal-clause-counted
returns-in_err-begin_removal-clause-counted g c = rw (passed c.from_residual.ensures.1)
    (counts_told c.begin_removal.new.self.faults (Err c.in_err-begin_removal.field-0.0) c.self.view_is
    (counts_as c.self.inside.vault.faults c.begin_removal.new.self.faults c.in_err-begin_removal.field-0.0 c.in_err-begin_removal.ensures.counted))

pub returns-clause-prepares : goal.returns-clause-prepares
returns-clause-prepares g c none =
    prepares_then
    (step_told g.S.Store (Some (works.Removal c.in-Some.removing)) c.self.view_is
    (ap (λ (r : Removal). Some (works.Removal r)) c.in-Some.ensures)
    (c.in_ok-begin_removal.ensures.prepares c.args.maildrop.now c.args.keys.now))
    (c.go_on.ensures.prepares (none_told c.self.view_is none))
