use Rattle.std.proofs.Common.{◌≡◌, take}
use Rattle.std.specs.List.{flat_map}
use Rattle.review.specs.Json.{verdict_number}
use Rattle.review.proofs.json.comma_numbers.Given as goal

abbrev pub invariant-loop-verdict : goal.invariant-loop-verdict
invariant-loop-verdict l = l.text.items ≡ flat_map (verdict_number l.remove l.rules) (take l.verdict-index l.verdicts)
