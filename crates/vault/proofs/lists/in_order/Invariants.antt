-- The last i names, in order.
use Rattle.std.proofs.Common.{◌≡◌, ◌-◌, length, drop}
use Rattle.creds.specs.Names.{by_name}
use Rattle.vault.proofs.lists.in_order.Given as goal

abbrev pub invariant-loop-i : goal.invariant-loop-i
invariant-loop-i l = l.sorted.items ≡ by_name (drop (length l.names - l.i) l.names)
