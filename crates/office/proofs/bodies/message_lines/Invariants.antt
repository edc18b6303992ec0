use Rattle.std.proofs.Common.{◌≡◌, map, take}
use Rattle.office.specs.Answers.{body_lines, message_text}
use Rattle.office.specs.Seen.{row_seen}
use Rattle.office.proofs.bodies.message_lines.Given as goal

-- the lines of the rows that came
abbrev pub invariant-loop-row : goal.invariant-loop-row
invariant-loop-row l = l.text.items ≡ body_lines message_text (map row_seen (take l.row-index l.rows))
