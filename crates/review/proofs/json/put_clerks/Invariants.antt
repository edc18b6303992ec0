use Rattle.std.proofs.Common.{◌≡◌, ◌++◌, take}
use Rattle.std.specs.List.{flat_map}
use Rattle.review.specs.CellSteps.{json_clerk}
use Rattle.review.proofs.json.put_clerks.Given as goal

abbrev pub invariant-loop-clerk : goal.invariant-loop-clerk
invariant-loop-clerk l = l.out.items ≡ l.initial.out.items ++ flat_map (json_clerk l.policy l.asked l.maildrops) (take l.clerk-index l.clerks)
