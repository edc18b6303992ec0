use Rattle.std.proofs.Common.{◌≡◌}
use Rattle.sqlite.specs.Held.{state}
use Rattle.sqlite.specs.State.{HasCleanDisk, Survives}
use Rattle.mailsql.specs.OlderVersions.{is_first}
use Rattle.mailsql.specs.Rows.{IsBegunOn, is_carried}
use Rattle.mailsql.proofs.CompleteLemmas.{Completing}
use Rattle.mailsql.proofs.tables.complete_tables.Given as goal

abbrev pub invariant-loop-at : goal.invariant-loop-at
invariant-loop-at g l =
    Survives (state g.S.Store l.fn.conn) (state g.S.Store l.conn) (λ _. IsBegunOn (state g.S.Store l.fn.conn) → is_carried (state g.S.Store l.fn.conn).now.trees ≡ is_first l.version → ⊥)
    × (HasCleanDisk (state g.S.Store l.conn) → IsBegunOn (state g.S.Store l.fn.conn) → is_carried (state g.S.Store l.fn.conn).now.trees ≡ is_first l.version
    → Completing (is_first l.version) l.at (state g.S.Store l.fn.conn) (state g.S.Store l.conn))
