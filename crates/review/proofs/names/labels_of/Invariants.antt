use Rattle.std.proofs.Common.{◌≡◌, ◌++◌, map}
use Rattle.review.specs.declared.label.Label.TheVariants.{Named}
use Rattle.review.proofs.names.labels_of.Given as goal

abbrev pub invariant-loop-name : goal.invariant-loop-name
invariant-loop-name l = l.labels.items ++ map Named l.name-iterator ≡ map Named l.names.keys
