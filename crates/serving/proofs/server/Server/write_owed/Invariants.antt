use Rattle.std.proofs.Common.{true}
use Rattle.serving.specs.ClientParts.{IsWritten}
use Rattle.serving.specs.Parts.{Does, KeepsServingOne}
use Rattle.serving.proofs.server.Server.write_owed.Given as goal

abbrev pub invariant-loop-times : goal.invariant-loop-times
invariant-loop-times g l = record {
  serves : KeepsServingOne g.V.Vault g.W.Wire l.fn.seat l.fn.self l.self;
  works : Does g.V.Vault g.W.Wire g.L.Listener l.fn.self l.self (IsWritten g.V.Vault.holds g.V.Vault.is_clean l.fn.self.office l.self.office l.fn.seat l._times l._times l.written true);
}
