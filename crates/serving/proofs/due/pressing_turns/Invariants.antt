-- The turns of the links that press so far.
use Rattle.std.proofs.Common.{◌≡◌, take, map}
use Rattle.std.specs.List.{filter, count_by}
use Rattle.arrayvec.specs.ArrayVec.{array_vec_len}
use Rattle.serving.specs.declared.sockets.Place.{Place}
use Rattle.serving.specs.Due.{presses}
use Rattle.serving.proofs.due.pressing_turns.Given as goal

abbrev pub invariant-loop-place : goal.invariant-loop-place
invariant-loop-place l = record {
  told : l.turns.items ≡ map (λ (p : Place). p.turn) (filter presses (take l.place-index l.places));
  counted : array_vec_len l.turns ≡ count_by presses (take l.place-index l.places);
}
