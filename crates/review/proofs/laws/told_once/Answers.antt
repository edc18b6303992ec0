use Rattle.review.proofs.Once.{once}
use Rattle.review.proofs.laws.told_once.Goals as goal

pub returns : goal.returns
returns c = once
