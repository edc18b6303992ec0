use Rattle.std.proofs.Common.{Ok}
use Rattle.sqlvault.proofs.HoldsLemmas.{met}
use Rattle.sqlvault.proofs.FrameLemmas.{passed, concluded_answer}
use Rattle.sqlvault.proofs.UnderWayLemmas.{gives_up_unbegun, gives_up_closed}
use Rattle.sqlvault.proofs.work.give_up.Goals as goal

pub returns-in_err-begin-clause-gives_up : goal.returns-in_err-begin-clause-gives_up
returns-in_err-begin-clause-gives_up g c = rw (passed c.from_residual.ensures.1) (gives_up_unbegun c.roll_back.ensures c.in_err-begin.ensures)

pub returns-clause-gives_up : goal.returns-clause-gives_up
returns-clause-gives_up g c = gives_up_closed c.conclude.result c.roll_back.ensures
    c.in_ok-begin.ensures c.conclude.ensures

pub returns-in_err-begin-clause-answer : goal.returns-in_err-begin-clause-answer
returns-in_err-begin-clause-answer g c = rw (passed c.from_residual.ensures.1) (met (Ok tt) c.in_err-begin.field-0.0)

pub returns-clause-answer : goal.returns-clause-answer
returns-clause-answer g c = concluded_answer (Ok tt) c.conclude.result c.conclude.ensures
