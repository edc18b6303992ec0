use Rattle.review.proofs.Alike.{alike}
use Rattle.review.proofs.laws.others_are_alike.Goals as goal

pub returns : goal.returns
returns c = alike
