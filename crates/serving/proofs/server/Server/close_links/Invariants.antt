use Rattle.std.proofs.Common.{◌≡◌, ◌-◌, [], take, ℕ, true}
use Rattle.office.specs.Trace.{is_open}
use Rattle.serving.specs.Newcomers.{newcomer}
use Rattle.arrayvec.specs.ArrayVec.{array_vec_len}
use Rattle.office.specs.Events.{Trace}
use Rattle.office.specs.Stands.{StandsFor}
use Rattle.serving.specs.Parts.{Closes}
use Rattle.serving.specs.Parts.{Asks, KeepsServing, PollsBy, PollsAfterClosing}
use Rattle.serving.proofs.Arriving.{ClosesSoFar}
use Rattle.serving.proofs.server.Server.close_links.Given as goal

abbrev pub invariant-loop-place : goal.invariant-loop-place
invariant-loop-place g l = record {
  serves : KeepsServing g.V.Vault g.W.Wire l.fn.self l.self l.fn.clients.seats.items [] l.clients.seats.items (take l.place l.clients.seats.items);
  closes : Closes l.fn.clients l.clients;
  newcomers : (T : Trace) → StandsFor g.V.Vault.holds l.fn.self.office T → (c : ℕ) → is_open T c ≡ true
      → newcomer c l.clients.newcomers.newcomers.items ≡ newcomer c l.fn.clients.newcomers.newcomers.items;
  works : Asks g.W.Wire g.L.Listener l.fn.self l.self (λ calls. (T : Trace) → StandsFor g.V.Vault.holds l.fn.self.office T
      → ClosesSoFar T l.fn.clients.seats.items l.clients.seats.items l.place calls × PollsBy l.fn.clients.poll_now l.clients.poll_now calls
      × PollsAfterClosing l.fn.clients.wait l.clients.poll_now calls);
}

abbrev pub decreases-loop-place : goal.decreases-loop-place
decreases-loop-place g l = array_vec_len l.clients.seats - l.place
