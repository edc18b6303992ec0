use Rattle.converse.proofs.SoFar.{WroteSoFar, IsMidway}
use Rattle.converse.proofs.talk.write_owed.Given as goal

abbrev pub invariant-loop : goal.invariant-loop
invariant-loop g l =
    WroteSoFar g.V.Vault.holds g.V.Vault.faults g.V.Vault.is_clean (IsMidway g.V.Vault.faults l.office l.c)
    l.fn.office l.office l.c (g.W.Sink.seen l.fn.writer) (g.W.Sink.seen l.writer) l.counter
