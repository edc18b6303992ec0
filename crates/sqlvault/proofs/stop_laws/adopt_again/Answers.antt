use Rattle.sqlite.specs.Held.{state}
use Rattle.sqlvault.proofs.AgainLemmas.{left_told, same_told, refused_told, refused_between}
use Rattle.sqlvault.proofs.stop_laws.adopt_again.Goals as goal

pub returns-clause-left : goal.returns-clause-left
returns-clause-left g c = left_told g.T.Store (state g.S.Store c.args.stopped.now.conn) c.args.conn c.adopt.result c.adopt.ensures.adopted

pub returns-clause-same : goal.returns-clause-same
returns-clause-same g c = same_told g.T.Store (state g.S.Store c.args.stopped.now.conn) c.args.conn c.adopt.result
    (λ d o m. g.met.S.Store.settled c.args.stopped.now.conn.store d o m) c.adopt.ensures.adopted

pub returns-clause-refused : goal.returns-clause-refused
returns-clause-refused g c = refused_told g.T.Store (state g.S.Store c.args.stopped.now.conn) c.args.conn c.adopt.result c.adopt.ensures.adopted

pub returns-clause-refused_between : goal.returns-clause-refused_between
returns-clause-refused_between g c = refused_between g.T.Store (state g.S.Store c.args.stopped.now.conn) c.args.conn c.adopt.result
    (λ d o m. g.met.S.Store.settled c.args.stopped.now.conn.store d o m) c.adopt.ensures.adopted
