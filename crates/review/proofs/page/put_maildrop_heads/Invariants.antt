use Rattle.std.proofs.Common.{◌≡◌, ◌++◌, take}
use Rattle.std.specs.List.{flat_map}
use Rattle.review.specs.Page.{maildrop_head}
use Rattle.review.proofs.page.put_maildrop_heads.Given as goal

abbrev pub invariant-loop-maildrop : goal.invariant-loop-maildrop
invariant-loop-maildrop l = l.out.items ≡ l.initial.out.items ++ flat_map maildrop_head (take l.maildrop-index l.maildrops)
