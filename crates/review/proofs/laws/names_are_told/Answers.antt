use Rattle.review.proofs.Naming.{told}
use Rattle.review.proofs.laws.names_are_told.Goals as goal

pub returns : goal.returns
returns c = told
