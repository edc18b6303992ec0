use Rattle.sqlite.specs.declared.error.Error.{Error}
use Rattle.std.proofs.Common.{Ok, Result}
use Rattle.sqlite.specs.Held.{state}
use Rattle.sqlite.specs.State.{HasCleanDisk}
use Rattle.mailsql.specs.Rows.{HasTables, rows_in}
use Rattle.sqlvault.specs.Frame.{Reads}
use Rattle.sqlvault.proofs.PieceLemmas.{HasPart}
use Rattle.sqlvault.proofs.sound_messages.find_text.Given as goal

abbrev pub invariant-loop-place : goal.invariant-loop-place
invariant-loop-place g l =
    (let done : Result (Unit {0}) Error = Ok tt in Reads g.S.Store l.fn.conn l.conn done)
    × (HasCleanDisk (state g.S.Store l.conn) → HasTables (state g.S.Store l.fn.conn)
    → HasPart (rows_in (state g.S.Store l.fn.conn).now.trees) l.mail l.octets l.place l.text.items)
