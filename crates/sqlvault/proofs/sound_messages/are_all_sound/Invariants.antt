use Rattle.sqlite.specs.declared.error.Error.{Error}
use Rattle.std.proofs.Common.{List, take, Ok, Result}
use Rattle.std.specs.Prelude.{All}
use Rattle.sqlite.specs.Held.{state}
use Rattle.sqlite.specs.State.{HasCleanDisk}
use Rattle.vault.specs.declared.record.Receipt.{Receipt}
use Rattle.mailsql.specs.Rows.{HasTables, rows_in}
use Rattle.sqlvault.specs.Parts.{DepositsAre}
use Rattle.sqlvault.specs.Frame.{Reads}
use Rattle.sqlvault.specs.Stored.{HasMessage}
use Rattle.sqlvault.proofs.sound_messages.are_all_sound.Given as goal

abbrev pub invariant-loop-row : goal.invariant-loop-row
invariant-loop-row g l =
    (let done : Result (Unit {0}) Error = Ok tt in Reads g.S.Store l.fn.conn l.conn done)
    × ((deposits : List Receipt) → HasCleanDisk (state g.S.Store l.conn)
    → HasTables (state g.S.Store l.fn.conn)
    → DepositsAre (rows_in (state g.S.Store l.fn.conn).now.trees) deposits
    → All (HasMessage (rows_in (state g.S.Store l.fn.conn).now.trees) deposits)
    (take l.row-index l.rows))
