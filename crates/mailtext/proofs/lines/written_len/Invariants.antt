use Rattle.std.proofs.Common.{◌≡◌, ◌<◌, ◌+◌, length}
use Rattle.mailtext.specs.Written.{written}
use Rattle.mailtext.proofs.lines.written_len.Given as goal

abbrev pub invariant-loop-rest : goal.invariant-loop-rest
invariant-loop-rest l = record {
  fits : l.len < 18446744073709551616;
  octets : l.len + length (written l.dots l.rest) ≡ length (written l.dots l.text);
}

abbrev pub decreases-loop-rest : goal.decreases-loop-rest
decreases-loop-rest l = length l.rest
