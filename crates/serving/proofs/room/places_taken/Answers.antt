use Rattle.std.proofs.Common.{ap, ◌∙◌, take_all}
use Rattle.std.specs.List.{count_by}
use Rattle.serving.specs.Works.{is_open_seat}
use Rattle.serving.proofs.room.places_taken.Goals as goal

pub returns : goal.returns
returns g c = λ T s. c.loop-seat.invariant.counted T s ∙ ap (count_by (is_open_seat T)) (take_all c.loop-seat.seat-index c.args.seats.now c.loop-seat-test.false)
