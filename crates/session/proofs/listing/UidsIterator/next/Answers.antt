use Rattle.std.proofs.Common.{rules}
use Rattle.session.proofs.listing.UidsIterator.next.Goals as goal

pub returns-clause-steps : goal.returns-clause-steps
returns-clause-steps c = search rules
