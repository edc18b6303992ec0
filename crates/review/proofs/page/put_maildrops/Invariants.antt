use Rattle.std.proofs.Common.{◌≡◌, ◌++◌, take}
use Rattle.std.specs.List.{flat_map}
use Rattle.review.specs.CellSteps.{cell_among}
use Rattle.review.proofs.page.put_maildrops.Given as goal

abbrev pub invariant-loop-maildrop : goal.invariant-loop-maildrop
invariant-loop-maildrop l = l.out.items ≡ l.initial.out.items ++ flat_map (cell_among l.olds l.news l.asked) (take l.maildrop-index l.maildrops)
