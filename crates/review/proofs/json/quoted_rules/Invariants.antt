use Rattle.std.proofs.Common.{◌≡◌, take}
use Rattle.std.specs.List.{flat_map}
use Rattle.review.specs.Json.{comma_quoted}
use Rattle.review.proofs.json.quoted_rules.Given as goal

abbrev pub invariant-loop-rule : goal.invariant-loop-rule
invariant-loop-rule l = l.text.items ≡ flat_map (λ r. comma_quoted r.name) (take l.rule-index l.rules)
