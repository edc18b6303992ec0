use Rattle.std.proofs.Common.{◌≡◌, map, take}
use Rattle.office.specs.Answers.{body_lines, session_text}
use Rattle.office.specs.Seen.{session_seen}
use Rattle.office.proofs.bodies.session_lines.Given as goal

-- the lines of the rows that came
abbrev pub invariant-loop-row : goal.invariant-loop-row
invariant-loop-row l = l.text.items ≡ body_lines session_text (map session_seen (take l.row-index l.rows))
