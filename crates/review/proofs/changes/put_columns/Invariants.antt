use Rattle.std.proofs.Common.{◌≡◌, ◌++◌, take}
use Rattle.std.specs.List.{flat_map}
use Rattle.review.specs.Steps.{told_column}
use Rattle.review.proofs.changes.put_columns.Given as goal

abbrev pub invariant-loop-column : goal.invariant-loop-column
invariant-loop-column l = l.out.items ≡ l.initial.out.items ++ flat_map (told_column l.allowed l.clerk l.maildrop l.rules.old.items l.rules.new.items) (take l.column-index l.asked)
