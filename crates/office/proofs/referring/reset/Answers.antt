use Rattle.office.proofs.Listed.{reset_said}
use Rattle.office.proofs.referring.reset.Goals as goal

pub returns-clause-said : goal.returns-clause-said
returns-clause-said c = λ p d kept lies. reset_said d c.args.session.now kept lies c.reset.new.self c.reset.ensures p c.stat-messages.result.0 c.stat-messages.result.1
    c.stat-messages.ensures.messages c.stat-messages.ensures.exact
