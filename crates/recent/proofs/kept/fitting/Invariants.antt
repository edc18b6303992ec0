-- What is left of the room, and how many fit so far.
use Rattle.std.proofs.Common.{◌≡◌, ◌+◌, take}
use Rattle.recent.specs.Recalling.{count}
use Rattle.recent.proofs.kept.fitting.Given as goal

abbrev pub invariant-loop-one : goal.invariant-loop-one
invariant-loop-one l = record {
  room : l.left + count (take l.one-index l.kept) ≡ l.most;
  place : l.fitting ≡ l.one-index;
}
