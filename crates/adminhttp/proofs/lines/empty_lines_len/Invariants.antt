use Rattle.std.proofs.Common.{◌≡◌, ◌≤◌, ◌+◌, ◌-◌, length, drop}
use Rattle.adminhttp.specs.Lines.{empty_lines}
use Rattle.adminhttp.proofs.lines.empty_lines_len.Given as goal

-- the empty lines passed, and those still to come
abbrev pub invariant-lines : goal.invariant-lines
invariant-lines l = (l.at ≤ length l.octets) × (empty_lines l.octets ≡ l.at + empty_lines (drop l.at l.octets))

abbrev pub decreases-lines : goal.decreases-lines
decreases-lines l = length l.octets - l.at
