use Rattle.std.proofs.Common.{◌≡◌, take}
use Rattle.office.specs.Answers.{body_lines, clerk_text}
use Rattle.office.proofs.bodies.clerk_lines.Given as goal

-- the lines of the rows that came
abbrev pub invariant-loop-row : goal.invariant-loop-row
invariant-loop-row l = l.text.items ≡ body_lines clerk_text (take l.row-index l.rows)
