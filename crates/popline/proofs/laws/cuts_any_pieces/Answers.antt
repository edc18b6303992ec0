use Rattle.popline.proofs.Cuts.{cuts_any_pieces}
use Rattle.popline.proofs.laws.cuts_any_pieces.Goals as goal

pub returns : goal.returns
returns c = cuts_any_pieces
