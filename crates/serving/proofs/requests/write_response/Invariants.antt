use Rattle.serving.specs.Requests.{StillAnswers}
use Rattle.std.proofs.Common.{List}
use Rattle.serving.specs.Hearing.{Hearing}
use Rattle.serving.specs.Parts.{Asking}
use Rattle.serving.specs.HttpParts.{AskedApart, KeepsLink}
use Rattle.serving.proofs.Resting.{WritesSoFar}
use Rattle.serving.proofs.requests.write_response.Given as goal

abbrev pub invariant-loop-times : goal.invariant-loop-times
invariant-loop-times g l = record {
  answers : StillAnswers g.W.Wire.tells l.fn.wire l.fn.exchange l.wire l.exchange;
  keeps : KeepsLink l.fn.exchange l.exchange;
  heard : (h : List Hearing) → g.L.Listener.heard l.fn.listener h → g.L.Listener.heard l.listener h;
  works : Asking g.W.Wire.asked l.fn.wire l.wire (AskedApart (WritesSoFar l.fn.exchange l.exchange l._times l.written));
}
