use Rattle.std.proofs.Common.{◌≡◌, ◌++◌, take}
use Rattle.std.specs.List.{flat_map}
use Rattle.review.specs.Json.{open_number}
use Rattle.review.proofs.json.put_open_numbers.Given as goal

abbrev pub invariant-loop-verdict : goal.invariant-loop-verdict
invariant-loop-verdict l = l.out.items ≡ l.initial.out.items ++ flat_map (λ v. open_number l.rules v.asked v.is) (take l.verdict-index l.verdicts)
