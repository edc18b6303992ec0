use Rattle.sqlite_wal.specs.Files.{image_at}
use Rattle.sqlvault.proofs.TakeLemmas.{opens_in}
use Rattle.sqlvault.proofs.sql_vault.SqlVault+FileStore+FileFrom+S.open.Goals as goal

pub returns-in-Ok-clause-opened : goal.returns-in-Ok-clause-opened
returns-in-Ok-clause-opened g c =
    opens_in (image_at g.S.Start) c.in-Ok.conn c.take.result (λ clean. c.in-Ok.ensures.opened clean)
    (λ clean. c.in-Ok.ensures.found clean) c.take.ensures.adopted c.take.ensures.stop c.take.ensures.carried c.take.ensures.refused c.take.ensures.known_version
