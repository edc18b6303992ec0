use Rattle.std.proofs.Common.{refl}
use Rattle.journal.proofs.Guarding.{file_on}
use Rattle.journal.proofs.guarded.GuardedSpoolSpool.read.Goals as goal

pub returns-clause-called : goal.returns-clause-called
returns-clause-called g c = file_on g.S.Spool.asked g.X.Watch.answered c.args.self.now.spool c.read.new.self c.args.self.now.watch _ refl c.read.ensures.called
