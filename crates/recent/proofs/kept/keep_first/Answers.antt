-- What was kept of the maildrop is forgotten, and its heads come in front.
use Rattle.std.proofs.Common.{sym, subst, List}
use Rattle.recent.specs.Recalling.{KeptHeads, Fits}
use Rattle.recent.proofs.Fitting.{others_stay}
use Rattle.recent.proofs.kept.keep_first.Goals as goal

pub returns-in-Some-clause-fits : goal.returns-in-Some-clause-fits
returns-in-Some-clause-fits c d e h =
    let others = subst (λ (ks : List KeptHeads). Fits ks d) (sym c.forget_one.ensures.rows) (others_stay c.args.maildrop.now _ d h) in
    c.put_first.ensures.fits d (rw c.in-Some.ensures.copy e) (c.shorten.ensures.fits d others)

pub returns-in_default-clause-fits : goal.returns-in_default-clause-fits
returns-in_default-clause-fits c d e h =
    subst (λ (ks : List KeptHeads). Fits ks d) (sym c.forget_one.ensures.rows) (others_stay c.args.maildrop.now _ d h)
