use Rattle.std.proofs.Common.{◌≡◌, true, List, map, take}
use Rattle.std.specs.List.{list_all}
use Rattle.vault.specs.declared.record.Receipt.{Receipt}
use Rattle.sqlvault.specs.Keeps.{deposit_row}
use Rattle.sqlvault.specs.Receipts.{is_formed}
use Rattle.sqlvault.proofs.receipts.read_receipts.Given as goal

abbrev pub invariant-loop-row : goal.invariant-loop-row
invariant-loop-row l = (rs : List Receipt) → l.rows ≡ map deposit_row rs → list_all is_formed rs ≡ true → l.receipts.items ≡ take l.row-index rs
