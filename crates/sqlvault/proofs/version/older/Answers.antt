use Rattle.std.proofs.Common.{subst}
use Rattle.sqlvault.specs.Versions.{Tells}
use Rattle.sqlvault.proofs.VersionLemmas.{older_beside}
use Rattle.sqlvault.proofs.version.older.Goals as goal

pub returns-in-Beside-clause-judged : goal.returns-in-Beside-clause-judged
returns-in-Beside-clause-judged c rows told =
    older_beside rows c.in-Beside.field-0 (subst (Tells rows) c.in-Beside.is told)
