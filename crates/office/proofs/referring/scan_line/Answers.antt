use Rattle.std.proofs.Common.{Ok, Err, ◌∙◌}
use Rattle.office.proofs.Picking.{scan_said}
use Rattle.office.proofs.referring.scan_line.Goals as goal

pub returns-in-Ok-clause-said : goal.returns-in-Ok-clause-said
returns-in-Ok-clause-said c = λ p d kept lies. scan_said d c.args.session.now kept lies p c.args.n (Ok c.in-Ok.head) c.in-Ok.ensures

pub returns-in-Err-clause-said : goal.returns-in-Err-clause-said
returns-in-Err-clause-said c = λ p d kept lies. c.refused.ensures ∙ scan_said d c.args.session.now kept lies p c.args.n (Err c.in-Err.why) c.in-Err.ensures
