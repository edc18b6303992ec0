use Rattle.std.proofs.Common.{◌≡◌, ◌++◌, take}
use Rattle.std.specs.List.{flat_map}
use Rattle.review.specs.Steps.{answers_column}
use Rattle.review.proofs.rows.put_columns.Given as goal

abbrev pub invariant-loop-column : goal.invariant-loop-column
invariant-loop-column l = l.out.items ≡ l.initial.out.items ++ flat_map (answers_column l.format l.clerk l.maildrop l.rules) (take l.column-index l.asked)
