-- The candidates among the seats so far.
use Rattle.std.proofs.Common.{◌≤◌, take}
use Rattle.arrayvec.specs.ArrayVec.{array_vec_len}
use Rattle.office.specs.Events.{Trace}
use Rattle.office.specs.Stands.{StandsFor}
use Rattle.serving.specs.Room.{AreCandidates}
use Rattle.serving.specs.declared.wire.Port.TheVariants.{Pop}
use Rattle.serving.proofs.room.candidates.Given as goal

abbrev pub invariant-loop-seat : goal.invariant-loop-seat
invariant-loop-seat g l = record {
  are : (T : Trace) → StandsFor g.V.Vault.holds l.office T → AreCandidates T (g.W.Wire.address_of l.wire Pop) (take l.seat-index l.seats) l.found.items;
  few : array_vec_len l.found ≤ l.seat-index;
}
