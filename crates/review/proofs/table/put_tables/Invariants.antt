use Rattle.std.proofs.Common.{◌≡◌, ◌++◌, take}
use Rattle.std.specs.List.{flat_map}
use Rattle.review.specs.Steps.{table_among}
use Rattle.review.proofs.table.put_tables.Given as goal

abbrev pub invariant-loop-maildrop : goal.invariant-loop-maildrop
invariant-loop-maildrop l = l.out.items ≡ l.initial.out.items ++ flat_map (table_among l.rules l.classes l.members) (take l.maildrop-index l.maildrops)
