use Rattle.std.proofs.Common.{◌≡◌, List, true, map, take}
use Rattle.std.specs.List.{list_all}
use Rattle.vault.specs.declared.record.Clerk as vault
use Rattle.vault.specs.Records.{is_sound_clerk}
use Rattle.sqlvault.specs.Keeps.{clerk_row}
use Rattle.sqlvault.proofs.clerks.read_clerks.Given as goal

abbrev pub invariant-loop-row : goal.invariant-loop-row
invariant-loop-row l =
    (cs : List vault.Clerk) → l.rows ≡ map clerk_row cs → list_all is_sound_clerk cs ≡ true
    → l.clerks.items ≡ take l.row-index cs
