use Rattle.std.proofs.Common.{◌≡◌, true, map, take}
use Rattle.std.specs.List.{list_all}
use Rattle.creds.specs.Names.{is_name}
use Rattle.sqlvault.specs.Clerks.{row_name}
use Rattle.sqlvault.proofs.clerks.row_names.Given as goal

abbrev pub invariant-loop-row : goal.invariant-loop-row
invariant-loop-row l =
    list_all is_name (map row_name l.rows) ≡ true
    → l.names.items ≡ take l.row-index (map row_name l.rows)
