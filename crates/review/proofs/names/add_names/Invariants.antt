use Rattle.std.proofs.Common.{◌≡◌, take}
use Rattle.review.specs.Names.{put_names}
use Rattle.review.proofs.names.add_names.Given as goal

abbrev pub invariant-loop-name : goal.invariant-loop-name
invariant-loop-name l = l.names.keys ≡ put_names l.initial.names.keys (take l.name-index l.more)
