use Rattle.review.proofs.Alike.{asks}
use Rattle.review.proofs.laws.asks_the_policy.Goals as goal

pub returns : goal.returns
returns c = asks
