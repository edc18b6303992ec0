use Rattle.std.proofs.Common.{◌≡◌, ◌+◌, drop, true, option_map}
use Rattle.adminhttp.specs.Lines.{through_empty_line}
use Rattle.adminhttp.proofs.lines.head_len.Given as goal

-- the end is still to come
abbrev pub invariant-loop-i : goal.invariant-loop-i
invariant-loop-i l = through_empty_line true l.octets ≡ option_map (λ n. l.i + n) (through_empty_line l.fresh (drop l.i l.octets))
