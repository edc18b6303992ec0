use Rattle.std.proofs.Common.{◌≡◌, take}
use Rattle.std.specs.List.{flat_map}
use Rattle.review.specs.Names.{put_names}
use Rattle.review.proofs.names.add_members.Given as goal

abbrev pub invariant-loop-group : goal.invariant-loop-group
invariant-loop-group l = l.names.keys ≡ put_names l.initial.names.keys (flat_map (λ g. g.members) (take l.group-index l.groups))
