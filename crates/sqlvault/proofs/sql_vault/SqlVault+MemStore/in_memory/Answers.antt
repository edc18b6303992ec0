use Rattle.sqlite.specs.Held.{state}
use Rattle.sqlite.specs.Steps.{over_memory}
use Rattle.sqlvault.specs.Adopts.{IsBlank}
use Rattle.sqlvault.proofs.TakeLemmas.{memory_taken, memory_refused}
use Rattle.sqlvault.proofs.sql_vault.SqlVault+MemStore.in_memory.Goals as goal

pub returns-in-Ok-clause-empty : goal.returns-in-Ok-clause-empty
returns-in-Ok-clause-empty c =
    let blank : IsBlank (state over_memory c.in-Ok.conn) = (c.in-Ok.ensures.empty.2, tt) in
    memory_taken c.in-Ok.conn c.take.result blank c.take.ensures.adopted

pub returns-in-Ok-clause-refused : goal.returns-in-Ok-clause-refused
returns-in-Ok-clause-refused c =
    let blank : IsBlank (state over_memory c.in-Ok.conn) = (c.in-Ok.ensures.empty.2, tt) in
    memory_refused c.in-Ok.conn c.take.result blank c.in-Ok.ensures.empty.0.autocommit c.take.ensures.refused
