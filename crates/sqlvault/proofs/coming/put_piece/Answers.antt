use Rattle.sqlvault.specs.declared.work.Work.TheVariants as works
use Rattle.sqlvault.proofs.UnderWayLemmas.{prepares_undone}
use Rattle.sqlvault.proofs.ComingLemmas.{coming_more}
use Rattle.sqlvault.proofs.coming.put_piece.Goals as goal

pub returns-in-Ok-clause-prepares : goal.returns-in-Ok-clause-prepares
returns-in-Ok-clause-prepares g c =
    coming_more {store = g.S.Store} {old = c.args.conn.now} {new = c.put_sheets.new.conn} c.args.coming.now c.put_sheets.new.coming _ c.in-Ok.ensures.whole c.in-Ok.ensures.taken c.in-Ok.ensures.writes

pub returns-in-Err-clause-prepares : goal.returns-in-Err-clause-prepares
returns-in-Err-clause-prepares g c =
    prepares_undone {store = g.S.Store} {old = c.args.conn.now} {new = c.undo.new.conn} (works.Deposit c.args.coming.now) c.in-Err.ensures.writes c.undo.ensures.undoes
