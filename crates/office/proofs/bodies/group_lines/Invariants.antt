use Rattle.std.proofs.Common.{◌≡◌, take}
use Rattle.office.specs.Answers.{body_lines, group_line}
use Rattle.office.proofs.bodies.group_lines.Given as goal

-- the lines of the rows that came
abbrev pub invariant-loop-group : goal.invariant-loop-group
invariant-loop-group l = l.text.items ≡ body_lines group_line (take l.group-index l.groups)
