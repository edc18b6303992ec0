use Rattle.std.proofs.Common.{◌≡◌, take}
use Rattle.std.specs.List.{flat_map}
use Rattle.review.specs.Cells.{comma_label}
use Rattle.review.proofs.cells.comma_labels.Given as goal

abbrev pub invariant-loop-class : goal.invariant-loop-class
invariant-loop-class l = l.text.items ≡ flat_map comma_label (take l.class-index l.classes)
