use Rattle.std.proofs.Common.{◌-◌, [], take}
use Rattle.arrayvec.specs.ArrayVec.{array_vec_len}
use Rattle.serving.specs.Late.{HasEndedLate}
use Rattle.serving.specs.Hearing.{HasHeard, ends_by}
use Rattle.office.specs.declared.account.End.TheVariants.{TooLate}
use Rattle.serving.specs.Parts.{Gives, KeepsServing, KeepsSeats, Ends}
use Rattle.serving.proofs.server.Server.end_late_ones.Given as goal

abbrev pub invariant-loop-place : goal.invariant-loop-place
invariant-loop-place g l = record {
  serves : KeepsServing g.V.Vault g.W.Wire l.fn.self l.self l.fn.clients.seats.items [] l.clients.seats.items [];
  keeps : KeepsSeats l.fn.clients l.clients;
  ends : Ends l.fn.clients l.clients l.fn.now l.fn.seconds;
  works : Gives g.V.Vault l.fn.self l.self
      (λ given. HasEndedLate g.V.Vault.holds g.V.Vault.is_clean l.fn.self.office l.self.office l.fn.now l.fn.seconds l.fn.clients.newcomers.newcomers.items l.clients.newcomers.newcomers.items
      (take l.place l.fn.clients.seats.items) given
      × HasHeard g.L.Listener.heard l.fn.self.listener l.self.listener (ends_by TooLate given));
}

abbrev pub decreases-loop-place : goal.decreases-loop-place
decreases-loop-place g l = array_vec_len l.clients.seats - l.place
