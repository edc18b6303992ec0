use Rattle.sqlite.specs.declared.error.Error.{Error}
use Rattle.std.proofs.Common.{◌≡◌, ◌^◌, ◌-◌, min, List, take, Ok, Result}
use Rattle.std.specs.Prelude.{All, sum_by}
use Rattle.sqlite.specs.Held.{state}
use Rattle.sqlite.specs.State.{HasCleanDisk}
use Rattle.vault.specs.declared.record.Receipt.{Receipt}
use Rattle.mailsql.specs.Rows.{HasTables, rows_in}
use Rattle.sqlvault.specs.Parts.{DepositsAre}
use Rattle.sqlvault.specs.Frame.{Reads}
use Rattle.sqlvault.specs.Stored.{IsSoundIn, sheets_under}
use Rattle.sqlvault.proofs.sound_messages.judge_maildrops.Given as goal

abbrev pub invariant-loop-name : goal.invariant-loop-name
invariant-loop-name g l =
    (let done : Result (Unit {0}) Error = Ok tt in Reads g.S.Store l.fn.conn l.conn done)
    × ((deposits : List Receipt) → HasCleanDisk (state g.S.Store l.conn)
    → HasTables (state g.S.Store l.fn.conn)
    → DepositsAre (rows_in (state g.S.Store l.fn.conn).now.trees) deposits
    → All (IsSoundIn (rows_in (state g.S.Store l.fn.conn).now.trees) deposits)
    (take l.name-index l.names)
    × (l.sheets ≡ min (sum_by (sheets_under (rows_in (state g.S.Store l.fn.conn).now.trees))
    (take l.name-index l.names)) (2 ^ 64 - 1)))
