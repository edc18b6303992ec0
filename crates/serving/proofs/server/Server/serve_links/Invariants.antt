use Rattle.std.proofs.Common.{◌≡◌, ◌<◌, ◌-◌, ◌||◌, [], take, true}
use Rattle.arrayvec.specs.ArrayVec.{array_vec_len}
use Rattle.serving.specs.Parts.{Does, KeepsServing, KeepsSeats}
use Rattle.serving.specs.Settings.{settings_of}
use Rattle.serving.specs.Newcomers.{AreSettled}
use Rattle.serving.proofs.Settling.{AreTouched}
use Rattle.serving.specs.ClientParts.{WereServed}
use Rattle.serving.specs.Parts.{Also, PollsBy}
use Rattle.serving.proofs.server.Server.serve_links.Given as goal

abbrev pub invariant-loop-place : goal.invariant-loop-place
invariant-loop-place g l = record {
  serves : KeepsServing g.V.Vault g.W.Wire l.fn.self l.self l.fn.clients.seats.items [] l.clients.seats.items [];
  keeps : KeepsSeats l.fn.clients l.clients;
  settled : AreSettled l.fn.now l.fn.clients.newcomers.newcomers.items l.clients.newcomers.newcomers.items;
  touched : AreTouched l.fn.clients.newcomers.newcomers.items l.clients.newcomers.newcomers.items (take l.place l.fn.clients.seats.items);
  releases : l.clients.lock_released ≡ true → l.clients.poll_now ≡ true;
  prepares : l.quits.is_preparing ≡ true → l.clients.poll_now ≡ true;
  left : l.quits.is_preparing ≡ true → 0 < l.fn.quits.turns_left;
  counts : l.quits.turns_left ≡ l.fn.quits.turns_left;
  works : Does g.V.Vault g.W.Wire g.L.Listener l.fn.self l.self
      (Also (WereServed g.V.Vault.holds g.V.Vault.is_clean l.fn.self.office l.self.office
      (settings_of l.fn.clients) l.fn.now l.fn.clients.newcomers.newcomers.items
      l.clients.lock_released l.quits.is_preparing l.clients.poll_now l.clients.newcomers.newcomers.items l.fn.clients.seats.items
      (take l.place l.fn.clients.seats.items))
      (PollsBy (l.fn.clients.poll_now || (l.quits.is_preparing || l.clients.lock_released)) l.clients.poll_now));
}

abbrev pub decreases-loop-place : goal.decreases-loop-place
decreases-loop-place g l = array_vec_len l.clients.seats - l.place
