use Rattle.std.proofs.Common.{◌≡◌, true, take, map}
use Rattle.std.specs.List.{list_all}
use Rattle.sqlvault.specs.Keeps.{group_in}
use Rattle.sqlvault.specs.Parts.{is_named_group}
use Rattle.sqlvault.proofs.groups.groups_of.Given as goal

abbrev pub invariant-loop-row : goal.invariant-loop-row
invariant-loop-row l =
    (l.groups.items ≡ map (group_in l.members) (take l.row-index l.rows))
    × (list_all is_named_group l.groups.items ≡ true)
