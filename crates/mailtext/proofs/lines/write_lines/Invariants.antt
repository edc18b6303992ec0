use Rattle.std.proofs.Common.{◌≡◌, ◌+◌, ◌≤◌, ◌++◌, length, vec_len, vec_capacity}
use Rattle.mailtext.specs.Written.{written}
use Rattle.mailtext.proofs.lines.write_lines.Given as goal

abbrev pub invariant-loop-rest : goal.invariant-loop-rest
invariant-loop-rest l = record {
  room : vec_len l.out + length (written l.dots l.rest) ≤ vec_capacity l.out;
  octets : l.out.items ++ written l.dots l.rest ≡ l.fn.out.items ++ written l.dots l.text;
}

abbrev pub decreases-loop-rest : goal.decreases-loop-rest
decreases-loop-rest l = length l.rest
