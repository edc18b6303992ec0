use Rattle.std.proofs.Common.{◌≤◌, ◌-◌, false, length, take}
use Rattle.serving.specs.Requests.{AllStillAsked}
use Rattle.std.specs.List.{All}
use Rattle.serving.specs.HttpTurns.{GoesOn}
use Rattle.serving.specs.Parts.{PollsBy}
use Rattle.serving.specs.HttpParts.{ServesApart}
use Rattle.serving.proofs.HttpWorking.{HadSome}
use Rattle.serving.proofs.server.Server.serve_requests.Given as goal

abbrev pub invariant-loop-place : goal.invariant-loop-place
invariant-loop-place g l = record {
  asked : AllStillAsked g.V.Vault.holds g.V.Vault.is_clean g.W.Wire.tells l.fn.site l.fn.self.office l.fn.self.wire l.fn.requests.exchanges.items l.self.office l.self.wire l.requests.exchanges.items;
  stay : All (GoesOn l.fn.now) (take l.place l.requests.exchanges.items);
  no_more : length l.requests.exchanges.items ≤ length l.fn.requests.exchanges.items;
  works : ServesApart g.V.Vault g.W.Wire g.L.Listener l.fn.self l.self (PollsBy false l.requests.poll_now)
      (HadSome l.fn.site l.fn.now l.place l.fn.requests.exchanges.items l.requests.exchanges.items);
}

abbrev pub decreases-loop-place : goal.decreases-loop-place
decreases-loop-place g l = length l.requests.exchanges.items - l.place
