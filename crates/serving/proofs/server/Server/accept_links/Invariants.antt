use Rattle.std.proofs.Common.{[], true}
use Rattle.serving.specs.Parts.{Accepts, AreNoted, KeepsServing}
use Rattle.serving.specs.ClientParts.{AreAccepted}
use Rattle.serving.proofs.server.Server.accept_links.Given as goal

abbrev pub invariant-loop-times : goal.invariant-loop-times
invariant-loop-times g l = record {
  serves : KeepsServing g.V.Vault g.W.Wire l.fn.self l.self l.fn.clients.seats.items [] l.clients.seats.items [];
  comers : AreNoted l.fn.clients l.clients l.fn.now;
  works : Accepts g.V.Vault g.W.Wire g.L.Listener l.fn.self l.self
      (AreAccepted g.V.Vault.holds g.V.Vault.is_clean l.fn.self.office l.self.office l.fn.clients.make_room l.fn.clients.seats.items l.clients.seats.items l._times true);
}
