use Rattle.converse.proofs.TextWriting.{WroteSo}
use Rattle.converse.proofs.writing.write_text.Given as goal

abbrev pub invariant-loop : goal.invariant-loop
invariant-loop g l = WroteSo (g.S.Sink.seen l.fn.out) (g.S.Sink.seen l.out) l.text l.done l.counter
