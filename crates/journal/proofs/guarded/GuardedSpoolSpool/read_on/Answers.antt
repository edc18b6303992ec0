use Rattle.journal.proofs.Guarding.{file_still}
use Rattle.journal.proofs.guarded.GuardedSpoolSpool.read_on.Goals as goal

pub returns-clause-called : goal.returns-clause-called
returns-clause-called g c = file_still g.S.Spool.asked g.X.Watch.answered c.args.self.now.spool c.read_on.new.self c.args.self.now.watch c.read_on.ensures.called
