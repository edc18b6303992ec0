use Rattle.std.proofs.Common.{sym}
use Rattle.serving.proofs.server.begin_noted.Goals as goal

pub returns-clause-serves : goal.returns-clause-serves
returns-clause-serves g c = λ T site stands admitted none.
    (let fresh = c.new-wire.ensures.fresh in
    c.begin-links.ensures.serves T fresh.0 site stands admitted none fresh.1 fresh.2 (sym c.new-spool.ensures.fresh))
