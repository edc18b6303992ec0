use Rattle.sqlite.specs.Held.{state}
use Rattle.jobs.proofs.WholeLemmas.{same_whole, refused_whole}
use Rattle.jobs.proofs.whole_laws.adopt_whole.Goals as goal

pub returns-clause-same : goal.returns-clause-same
returns-clause-same g c = same_whole g.T.Store (state g.S.Store c.args.stopped.now) c.args.conn c.adopt.result
    (λ d o m. g.met.S.Store.settled c.args.stopped.now.store d o m) c.tables_are_listed.ensures.live c.tables_are_listed-2.ensures.live c.adopt.ensures.adopted

pub returns-clause-refused : goal.returns-clause-refused
returns-clause-refused g c = refused_whole g.T.Store (state g.S.Store c.args.stopped.now) c.args.conn c.adopt.result
    (λ d o m. g.met.S.Store.settled c.args.stopped.now.store d o m) c.tables_are_listed.ensures.live c.tables_are_listed-2.ensures.live c.adopt.ensures.adopted
