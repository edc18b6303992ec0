use Rattle.std.proofs.Common.{Err}
use Rattle.sqlvault.proofs.AheadLemmas.{prepares_refused, step_told, counts_told, none_told, counts_as}
use Rattle.vault.specs.declared.answer.Progress.{Progress}
use Rattle.sqlvault.proofs.ahead.Ahead.put_more.Goals as goal

pub returns-in-Err-clause-prepares : goal.returns-in-Err-clause-prepares
returns-in-Err-clause-prepares g c none =
    step_told g.S.Store c.self.inside.work c.self.view_is (none_told c.self.view_is none)
    (prepares_refused Progress c.in-Err.fault c.in-Err.ensures.step c.in-Err.ensures.prepares)

pub returns-in-Err-clause-counted : goal.returns-in-Err-clause-counted
returns-in-Err-clause-counted g c =
    counts_told c.put_piece.new.self.faults (Err c.in-Err.fault) c.self.view_is
    (counts_as c.self.inside.vault.faults c.put_piece.new.self.faults c.in-Err.fault c.in-Err.ensures.counted)
