use Rattle.std.proofs.Common.{◌≡◌, true, take}
use Rattle.std.specs.List.{list_all}
use Rattle.creds.specs.Names.{is_name}
use Rattle.sqlvault.specs.Keeps.{member_names}
use Rattle.sqlvault.proofs.groups.members_of.Given as goal

abbrev pub invariant-loop-row : goal.invariant-loop-row
invariant-loop-row l =
    (l.names.items ≡ member_names l.group (take l.row-index l.rows))
    × (list_all is_name l.names.items ≡ true)
