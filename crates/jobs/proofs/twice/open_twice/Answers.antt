use Rattle.jobs.proofs.twice.open_twice.Goals as goal

pub returns : goal.returns
returns c = record { stands = c.in_ok-office.ensures.stands _ (c.in_ok-found.ensures.kept _ (c.in_ok-sitting.ensures.kept _ c.in_ok-made.ensures.kept)) }
