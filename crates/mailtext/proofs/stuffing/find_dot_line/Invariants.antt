use Rattle.std.proofs.Common.{◌-◌, ◌≤◌, take, drop}
use Rattle.mailtext.proofs.LineLemmas.{Unbroken}
use Rattle.mailtext.proofs.ReadingLemmas.{HasRead}
use Rattle.mailtext.proofs.stuffing.find_dot_line.Given as goal

abbrev pub invariant-loop-i : goal.invariant-loop-i
invariant-loop-i l = record {
  begun : l.start ≤ l.i;
  before : HasRead l.octets (take l.start l.octets) (drop l.start l.octets);
  here : Unbroken (take (l.i - l.start) (drop l.start l.octets));
}
