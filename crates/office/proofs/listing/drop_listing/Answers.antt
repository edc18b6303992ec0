use Rattle.office.proofs.Listed.{stat_said}
use Rattle.office.proofs.listing.drop_listing.Goals as goal

pub returns-clause-said : goal.returns-clause-said
returns-clause-said c = λ p d kept lies. stat_said d c.args.session.now kept lies p c.stat-messages.result.0 c.stat-messages.result.1 c.stat-messages.ensures.messages c.stat-messages.ensures.exact
