use Rattle.std.proofs.Common.{◌≡◌, true, take}
use Rattle.std.specs.List.{list_all}
use Rattle.creds.specs.Names.{is_name}
use Rattle.sqlvault.proofs.sound_clerks.are_named.Given as goal

abbrev pub invariant-loop-row : goal.invariant-loop-row
invariant-loop-row l = list_all is_name (take l.row-index l.rows) ≡ true
