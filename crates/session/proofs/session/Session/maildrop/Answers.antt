-- The maildrop's name.
use Rattle.std.proofs.Common.{rules}
use Rattle.session.proofs.session.Session.maildrop.Goals as goal

pub returns : goal.returns
returns c = search rules
