use Rattle.std.proofs.Common.{◌≡◌, ◌^◌, true, List, map, take}
use Rattle.std.specs.Prelude.{nat_lt}
use Rattle.std.specs.List.{list_all}
use Rattle.creds.specs.Names.{is_name}
use Rattle.vault.specs.declared.record.Keyed.{Keyed}
use Rattle.vault.specs.Changes.{head_of}
use Rattle.sqlvault.specs.Keeps.{message_row}
use Rattle.sqlvault.proofs.mail.read_heads.Given as goal

abbrev pub invariant-loop-row : goal.invariant-loop-row
invariant-loop-row l =
    (ms : List Keyed) → l.rows ≡ map message_row ms → list_all (λ (x : Keyed). is_name x.message.class) ms ≡ true → list_all (λ (x : Keyed). nat_lt x.key (2 ^ 64)) ms ≡ true
    → l.heads.items ≡ map head_of (take l.row-index ms)
