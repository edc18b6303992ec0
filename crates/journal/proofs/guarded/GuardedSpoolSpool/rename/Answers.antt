use Rattle.std.proofs.Common.{refl}
use Rattle.serving.specs.Spools.{Renamed}
use Rattle.journal.proofs.Guarding.{file_on}
use Rattle.journal.proofs.guarded.GuardedSpoolSpool.rename.Goals as goal

pub returns-clause-called : goal.returns-clause-called
returns-clause-called g c = file_on g.S.Spool.asked g.X.Watch.answered c.args.self.now.spool c.rename.new.self c.args.self.now.watch
    (Renamed c.args.name.now c.rename.result) refl c.rename.ensures.called
