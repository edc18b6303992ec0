use Rattle.std.proofs.Common.{◌≡◌, ◌+◌, drop}
use Rattle.mailtext.proofs.PartLemmas.{lines_from}
use Rattle.mailtext.proofs.parts.lines_end.Given as goal

abbrev pub invariant-loop-i : goal.invariant-loop-i
invariant-loop-i l = l.i + lines_from l.left (drop l.i l.body) ≡ lines_from l.n l.body
