use Rattle.std.proofs.Common.{◌≡◌, take}
use Rattle.review.specs.Steps.{names_of_groups}
use Rattle.review.proofs.member.names_of_groups.Given as goal

abbrev pub invariant-loop-group : goal.invariant-loop-group
invariant-loop-group l = l.names.items ≡ names_of_groups (take l.group-index l.groups) l.clerk
