use Rattle.std.proofs.Common.{◌≡◌, ◌++◌, take}
use Rattle.review.specs.Escape.{escaped}
use Rattle.review.proofs.escape.put_escaped.Given as goal

abbrev pub invariant-loop-octet : goal.invariant-loop-octet
invariant-loop-octet l = l.out.items ≡ l.initial.out.items ++ escaped (take l.octet-index l.text)
