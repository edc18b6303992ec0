use Rattle.std.proofs.Common.{refl}
use Rattle.serving.specs.Spools.{Removed}
use Rattle.journal.proofs.Guarding.{file_on}
use Rattle.journal.proofs.guarded.GuardedSpoolSpool.remove.Goals as goal

pub returns-clause-called : goal.returns-clause-called
returns-clause-called g c = file_on g.S.Spool.asked g.X.Watch.answered c.args.self.now.spool c.remove.new.self c.args.self.now.watch
    (Removed c.args.name.now c.remove.result) refl c.remove.ensures.called
