use Rattle.std.proofs.Common.{Ok}
use Rattle.sqlvault.proofs.HoldsLemmas.{met}
use Rattle.sqlvault.proofs.FrameLemmas.{unbegun, passed}
use Rattle.sqlvault.proofs.UnderWayLemmas.{prepares_look}
use Rattle.sqlvault.proofs.RemovalLemmas.{removal_begun}
use Rattle.sqlvault.proofs.removal.begin_removal.Goals as goal

pub returns-clause-prepares : goal.returns-clause-prepares
returns-clause-prepares g c = λ d keys. removal_begun d keys c.in_ok-begin.ensures

pub returns-in_err-begin-clause-prepares : goal.returns-in_err-begin-clause-prepares
returns-in_err-begin-clause-prepares g c = rw (passed c.from_residual.ensures.1) (λ d keys. prepares_look (unbegun c.in_err-begin.ensures))

pub returns-in_err-begin-clause-answer : goal.returns-in_err-begin-clause-answer
returns-in_err-begin-clause-answer g c = rw (passed c.from_residual.ensures.1) (met (Ok tt) c.in_err-begin.field-0.0)
