use Rattle.std.proofs.Common.{◌≢◌, subst, rules}
use Rattle.sqlvault.specs.Keeps.{version}
use Rattle.sqlvault.specs.Versions.{Tells}
use Rattle.sqlvault.proofs.VersionLemmas.{another_alone}
use Rattle.sqlvault.proofs.version.ours.Goals as goal

pub returns-else-value-eq-NEWEST-2-clause-judged : goal.returns-else-value-eq-NEWEST-2-clause-judged
returns-else-value-eq-NEWEST-2-clause-judged c rows told =
    let other : c.in-Alone.value ≢ version = search rules in
    another_alone rows c.in-Alone.value (subst (Tells rows) c.in-Alone.is told) other
