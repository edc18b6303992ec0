-- How many of the places so far are taken.
use Rattle.std.proofs.Common.{◌≡◌, ◌≤◌, take}
use Rattle.std.specs.List.{count_by}
use Rattle.office.specs.Events.{Trace}
use Rattle.office.specs.Stands.{StandsFor}
use Rattle.serving.specs.Works.{is_open_seat}
use Rattle.serving.proofs.room.places_taken.Given as goal

abbrev pub invariant-loop-seat : goal.invariant-loop-seat
invariant-loop-seat g l = record {
  counted : (T : Trace) → StandsFor g.V.Vault.holds l.office T → l.taken ≡ count_by (is_open_seat T) (take l.seat-index l.seats);
  few : l.taken ≤ l.seat-index;
}
