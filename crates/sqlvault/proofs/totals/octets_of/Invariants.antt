use Rattle.std.proofs.Common.{◌≡◌, ◌^◌, ◌-◌, List, length, map, min, take}
use Rattle.std.specs.Prelude.{sum_by}
use Rattle.vault.specs.declared.record.Keyed.{Keyed}
use Rattle.sqlvault.specs.Keeps.{message_row}
use Rattle.sqlvault.proofs.totals.octets_of.Given as goal

abbrev pub invariant-loop-row : goal.invariant-loop-row
invariant-loop-row l = (ms : List Keyed) → l.rows ≡ map message_row ms → l.octets ≡ min (sum_by (λ (x : Keyed). length x.message.text) (take l.row-index ms)) (2 ^ 64 - 1)
