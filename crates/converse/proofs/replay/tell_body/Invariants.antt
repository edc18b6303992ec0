use Rattle.std.proofs.Common.{codes, drop}
use Rattle.converse.specs.Told.{led_by, answer_lines}
use Rattle.converse.proofs.Telling.{Told}
use Rattle.converse.proofs.replay.tell_body.Given as goal

-- the octets that came were printed, those that begin a line after the word
abbrev pub invariant-loop-octet : goal.invariant-loop-octet
invariant-loop-octet g l =
    Told (g.W.Write.contents l.initial.out) (g.W.Write.contents l.out) (led_by (codes "answer ") l.at_start (drop l.octet-index l.body)) (answer_lines l.body)
