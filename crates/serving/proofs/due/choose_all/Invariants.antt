-- The places so far are chosen among, and the others are as they were.
use Rattle.std.proofs.Common.{◌≡◌, ◌++◌, take, drop, map}
use Rattle.serving.specs.Due.{chosen}
use Rattle.serving.proofs.due.choose_all.Given as goal

abbrev pub invariant-loop-place : goal.invariant-loop-place
invariant-loop-place l = l.places ≡ map (chosen l.turns l.most l.waiting) (take l.place-index l.initial.places) ++ drop l.place-index l.initial.places
