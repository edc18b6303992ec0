use Rattle.converse.proofs.SoFar.{TalkedSoFar, IsOn}
use Rattle.converse.proofs.talk.converse.Given as goal

abbrev pub invariant-loop : goal.invariant-loop
invariant-loop g l =
    TalkedSoFar g.V.Vault.holds g.V.Vault.faults g.V.Vault.is_clean (IsOn l.c) l.fn.office l.office l.c
    (g.R.Source.seen l.fn.reader) (g.R.Source.seen l.reader) (g.W.Sink.seen l.fn.writer) (g.W.Sink.seen l.writer) l.counter
