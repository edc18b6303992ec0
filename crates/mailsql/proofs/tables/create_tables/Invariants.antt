use Rattle.sqlite.specs.Held.{state}
use Rattle.sqlite.specs.State.{HasCleanDisk, Survives}
use Rattle.mailsql.specs.Tables.{stage}
use Rattle.mailsql.specs.Rows.{IsBegun, IsBare, GoesOn}
use Rattle.mailsql.proofs.tables.create_tables.Given as goal

abbrev pub invariant-loop-at : goal.invariant-loop-at
invariant-loop-at g l =
    Survives (state g.S.Store l.fn.conn) (state g.S.Store l.conn) (λ _. ¬ IsBegun (state g.S.Store l.fn.conn))
    × (HasCleanDisk (state g.S.Store l.conn) → IsBegun (state g.S.Store l.fn.conn) → IsBare (stage l.at) (state g.S.Store l.conn).now × GoesOn (state g.S.Store l.fn.conn) (state g.S.Store l.conn))
