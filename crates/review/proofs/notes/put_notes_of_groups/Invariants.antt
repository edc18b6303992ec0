use Rattle.std.proofs.Common.{◌≡◌, ◌++◌, take}
use Rattle.std.specs.List.{flat_map}
use Rattle.review.specs.Notes.{notes_of_group}
use Rattle.review.proofs.notes.put_notes_of_groups.Given as goal

abbrev pub invariant-loop-group : goal.invariant-loop-group
invariant-loop-group l = l.out.items ≡ l.initial.out.items ++ flat_map (notes_of_group l.clerks) (take l.group-index l.groups)
