use Rattle.std.proofs.Common.{ap}
use Rattle.sqlite_store.specs.declared.store.FileStore.{FileStore}
use Rattle.sqlvault.specs.Opened.{Opened}
use Rattle.sqlvault.proofs.CloseLemmas.{left_by}
use Rattle.sqlvault.proofs.sql_vault.SqlVault+FileStore+D.close_files.Goals as goal

pub returns-in-Err-clause-left : goal.returns-in-Err-clause-left
returns-in-Err-clause-left g c =
    left_by g.met.D.Disk.seen_may_stay c.args.self.conn c.self.inside.conn c.in-Err.store c.close.result
    (ap (λ (o : Opened (FileStore g.row.D.Denot g.D.Disk)). o.conn) c.self.view_is) c.in-Err.ensures.err.0 c.close.ensures
