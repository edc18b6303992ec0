use Rattle.std.proofs.Common.{◌≡◌, take}
use Rattle.std.specs.List.{flat_map}
use Rattle.review.specs.Differences.{label_text}
use Rattle.review.specs.Json.{comma_quoted}
use Rattle.review.proofs.json.quoted_labels.Given as goal

abbrev pub invariant-loop-label : goal.invariant-loop-label
invariant-loop-label l = l.text.items ≡ flat_map (λ label. comma_quoted (label_text label)) (take l.label-index l.labels)
