use Rattle.std.proofs.Common.{◌≡◌, map, take}
use Rattle.std.specs.Prelude.{⊤}
use Rattle.sqlite.specs.Held.{state}
use Rattle.sqlite.specs.State.{HasCleanDisk}
use Rattle.vault.specs.Changes.{Contents}
use Rattle.vault.specs.Plain.{capped_total}
use Rattle.sqlvault.specs.Frame.{Looks}
use Rattle.sqlvault.specs.Stands.{Holds}
use Rattle.sqlvault.proofs.totals.totals_of.Given as goal

abbrev pub invariant-loop-name : goal.invariant-loop-name
invariant-loop-name g l =
    Looks g.S.Store l.fn.conn l.conn ⊤
    × ((c : Contents) → HasCleanDisk (state g.S.Store l.conn) → Holds (state g.S.Store l.fn.conn) c
    → l.totals.items ≡ take l.name-index (map (capped_total c.messages) l.names))
