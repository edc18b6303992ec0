use Rattle.std.proofs.Common.{◌≡◌, ℕ, List, false, length}
use Rattle.office.specs.Events.{Trace}
use Rattle.office.specs.Stands.{StandsFor, vault_of}
use Rattle.serving.specs.Served.{Serves}
use Rattle.serving.specs.Settings.{settings}
use Rattle.serving.specs.HttpTurns.{AreFew}
use Rattle.serving.specs.HttpWorks.{AreShort}
use Rattle.serving.specs.Newcomers.{AllHaveSeats}
use Rattle.serving.specs.Guesses.{AllArePacing}
use Rattle.serving.specs.Quits.{HasStayedFor}
use Rattle.serving.specs.Running.{HasTurned}
use Rattle.serving.proofs.server.Server.serve_while.Given as goal

abbrev pub invariant-loop-turn : goal.invariant-loop-turn
invariant-loop-turn g l = record {
  serves : (T : Trace) → Serves g.V.Vault.holds g.W.Wire.tells g.S.Spool.tells T l.fn.self.office l.fn.self.wire l.fn.spool
      l.fn.links.clients.seats.items l.fn.links.requests.exchanges.items l.fn.links.site
      → g.V.Vault.is_clean (vault_of l.self.office)
      → Serves g.V.Vault.holds g.W.Wire.tells g.S.Spool.tells T l.self.office l.self.wire l.spool l.links.clients.seats.items l.links.requests.exchanges.items l.links.site;
  clean : g.V.Vault.is_clean (vault_of l.self.office) → g.V.Vault.is_clean (vault_of l.fn.self.office);
  turned : (moments : List ℕ) × (row : ℕ) × (length moments ≡ l._turn) × HasStayedFor row l.quits
      × HasTurned g.V.Vault g.W.Wire.asked g.S.Spool.asked g.L.Listener.heard g.C.Clock.gave false moments row
      l.fn.links l.fn.self.office l.fn.self.wire l.fn.spool l.fn.self.listener l.fn.clock l.links l.self.office l.self.wire l.spool l.self.listener l.clock;
  few : AreFew l.fn.links → AreFew l.links;
  seated : AllHaveSeats l.fn.links → AllHaveSeats l.links;
  pacing : AllArePacing l.fn.links → AllArePacing l.links;
  short : (T : Trace) → StandsFor g.V.Vault.holds l.fn.self.office T → g.V.Vault.is_clean (vault_of l.self.office) → AreShort l.fn.links → AreShort l.links;
  settings : settings l.links ≡ settings l.fn.links;
  site : l.links.site ≡ l.fn.links.site;
}
