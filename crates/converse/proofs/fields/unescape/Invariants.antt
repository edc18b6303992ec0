use Rattle.std.proofs.Common.{◌≡◌, ◌+◌, ◌≤◌, length, vec_len}
use Rattle.converse.specs.Escapes.{unescaped}
use Rattle.converse.proofs.Escaping.{behind}
use Rattle.converse.proofs.fields.unescape.Given as goal

-- each octet that is read leaves a shorter text, and what was read is in front of what the rest stands for
abbrev pub invariant-loop-rest : goal.invariant-loop-rest
invariant-loop-rest l =
    record {
      short : vec_len l.octets + length l.rest ≤ length l.text;
      is : unescaped l.text ≡ behind l.octets.items (unescaped l.rest);
    }

abbrev pub decreases-loop-rest : goal.decreases-loop-rest
decreases-loop-rest l = length l.rest
