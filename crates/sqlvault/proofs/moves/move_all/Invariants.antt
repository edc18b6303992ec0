use Rattle.sqlite.specs.Held.{state}
use Rattle.sqlite.specs.State.{HasCleanDisk}
use Rattle.sqlvault.specs.Moves.{HasHeads}
use Rattle.sqlvault.specs.Stands.{WasClean}
use Rattle.sqlvault.proofs.MoveLemmas.{MovesFirst}
use Rattle.sqlvault.proofs.moves.move_all.Given as goal

abbrev pub invariant-loop-head : goal.invariant-loop-head
invariant-loop-head g l =
    WasClean (state g.S.Store l.fn.conn) (state g.S.Store l.conn)
    × (HasCleanDisk (state g.S.Store l.conn) → HasHeads l.heads (state g.S.Store l.fn.conn)
    → MovesFirst l.head-index (state g.S.Store l.fn.conn) (state g.S.Store l.conn))
