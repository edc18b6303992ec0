use Rattle.std.proofs.Common.{◌≡◌, map, take}
use Rattle.review.specs.Steps.{member_of}
use Rattle.review.proofs.member.members_of.Given as goal

abbrev pub invariant-loop-clerk : goal.invariant-loop-clerk
invariant-loop-clerk l = l.members.items ≡ map (member_of l.groups) (take l.clerk-index l.clerks)
