use Rattle.review.proofs.Markup.{no_markup}
use Rattle.review.proofs.laws.text_has_no_markup.Goals as goal

pub returns : goal.returns
returns c = no_markup
