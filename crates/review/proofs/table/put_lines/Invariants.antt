use Rattle.std.proofs.Common.{◌≡◌, ◌++◌, [], take, drop}
use Rattle.review.specs.Table.{lines_text}
use Rattle.review.proofs.table.put_lines.Given as goal

-- the lines so far, and those that are still to come, are all lines
abbrev pub invariant-loop-i : goal.invariant-loop-i
invariant-loop-i l = l.out.items ++ lines_text (take l.i l.rows) (drop l.i l.rows) ≡ l.initial.out.items ++ lines_text [] l.rows
