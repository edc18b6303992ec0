use Rattle.std.proofs.Common.{◌≡◌, ◌++◌, take}
use Rattle.std.specs.List.{flat_map}
use Rattle.review.specs.CellSteps.{json_among}
use Rattle.review.proofs.json.put_maildrops.Given as goal

abbrev pub invariant-loop-maildrop : goal.invariant-loop-maildrop
invariant-loop-maildrop l = l.out.items ≡ l.initial.out.items ++ flat_map (json_among l.rules l.clerk l.some l.asked) (take l.maildrop-index l.maildrops)
