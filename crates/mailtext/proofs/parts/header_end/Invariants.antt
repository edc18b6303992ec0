use Rattle.std.proofs.Common.{◌≡◌, ◌+◌, ◌-◌, ◌≤◌, drop}
use Rattle.mailtext.proofs.PartLemmas.{header_from}
use Rattle.mailtext.proofs.parts.header_end.Given as goal

abbrev pub invariant-loop-i : goal.invariant-loop-i
invariant-loop-i l = record {
  begun : l.start ≤ l.i;
  header : l.i + header_from (l.i - l.start) (drop l.i l.octets) ≡ header_from 0 l.octets;
}
