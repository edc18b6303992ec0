use Rattle.std.proofs.Common.{◌≡◌, ◌++◌, take}
use Rattle.std.specs.List.{flat_map}
use Rattle.review.specs.declared.question.Column.TheVariants as column
use Rattle.review.specs.Steps.{decide_among}
use Rattle.review.specs.Table.{class_cell}
use Rattle.review.proofs.table.put_cells.Given as goal

abbrev pub invariant-loop-class : goal.invariant-loop-class
invariant-loop-class l = l.out.items ≡ l.initial.out.items
    ++ flat_map (λ class. class_cell class ((decide_among l.rules (column.Read class)).allowed) ((decide_among l.rules (column.Remove class)).allowed)) (take l.class-index l.classes)
