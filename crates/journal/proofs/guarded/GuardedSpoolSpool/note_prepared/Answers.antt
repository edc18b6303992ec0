use Rattle.journal.proofs.Guarding.{file_still}
use Rattle.journal.proofs.guarded.GuardedSpoolSpool.note_prepared.Goals as goal

pub returns-clause-called : goal.returns-clause-called
returns-clause-called g c = file_still g.S.Spool.asked g.X.Watch.answered c.args.self.now.spool c.note_prepared.new.self c.args.self.now.watch c.note_prepared.ensures.called
