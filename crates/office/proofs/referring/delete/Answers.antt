use Rattle.std.proofs.Common.{Ok, Err, ◌∙◌, arith}
use Rattle.std.proofs.lemmas.Grind.{common_steps}
use Rattle.office.proofs.Picking.{dele_said}
use Rattle.office.proofs.referring.delete.Goals as goal

pub returns-in-Ok-clause-said : goal.returns-in-Ok-clause-said
returns-in-Ok-clause-said c = λ d kept lies. dele_said d c.args.session.now kept lies c.args.policy.now c.args.n (Ok c.in-Ok.field-0) c.in-Ok.ensures.answer

pub returns-in-Err-clause-said : goal.returns-in-Err-clause-said
returns-in-Err-clause-said c = λ d kept lies. c.refused.ensures ∙ dele_said d c.args.session.now kept lies c.args.policy.now c.args.n (Err c.in-Err.why) c.in-Err.ensures.answer

pub returns-in-Ok-clause-session : goal.returns-in-Ok-clause-session
returns-in-Ok-clause-session c = grind (arith, common_steps)
