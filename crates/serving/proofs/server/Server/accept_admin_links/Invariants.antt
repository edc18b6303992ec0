use Rattle.std.proofs.Common.{◌≤◌, length, true}
use Rattle.serving.specs.Requests.{AllStillAnswer}
use Rattle.serving.specs.HttpParts.{AsksApart}
use Rattle.serving.specs.HttpWorks.{HasAcceptedForAdmin}
use Rattle.serving.proofs.server.Server.accept_admin_links.Given as goal

abbrev pub invariant-loop-times : goal.invariant-loop-times
invariant-loop-times g l = record {
  answers : AllStillAnswer g.W.Wire.tells l.fn.self.wire l.fn.requests.exchanges.items l.self.wire l.requests.exchanges.items;
  few : length l.fn.requests.exchanges.items ≤ 8 → length l.requests.exchanges.items ≤ 8;
  works : AsksApart g.W.Wire g.L.Listener l.fn.self l.self (HasAcceptedForAdmin l.fn.now l._times true l.fn.requests.exchanges.items l.requests.exchanges.items);
}
