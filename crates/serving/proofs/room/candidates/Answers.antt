use Rattle.std.proofs.Common.{arith, [], ap, length, subst, sym, take_all}
use Rattle.serving.specs.Room.{AreCandidates, NoPlaces}
use Rattle.serving.specs.declared.links.Seat.{Seat}
use Rattle.serving.specs.declared.wire.Port.TheVariants.{Pop}
use Rattle.serving.proofs.Rooms.{candidates_more, candidates_few}
use Rattle.serving.proofs.room.candidates.Goals as goal

-- any seat
abbrev no_seat : Seat
no_seat = record { link = record { number = 0 }; connection = 0 }

pub loop-seat-init : goal.loop-seat-init
loop-seat-init g c = record {
  are = λ T s. subst (AreCandidates T (g.W.Wire.address_of c.args.wire.now Pop) []) (sym c.new-found.ensures) NoPlaces;
  few = (let k = ap length c.new-found.ensures in omega (arith, k));
}

pub loop-seat-preserved : goal.loop-seat-preserved
loop-seat-preserved g c =
    let k = c.loop-seat in
    record {
      are = λ T s. candidates_more T (g.W.Wire.address_of c.args.wire.now Pop) c.args.seats.now k.seat-index no_seat c.find_candidate.result k.found.items c.add.new.found.items
          c.loop-seat-test.true (c.find_candidate.ensures T s) c.add.ensures (k.invariant.are T s);
      few = candidates_few k.seat-index c.find_candidate.result k.found.items c.add.new.found.items c.add.ensures k.invariant.few;
    }

pub returns : goal.returns
returns g c = λ T s.
    (let k = c.loop-seat in
    subst (λ xs. AreCandidates T (g.W.Wire.address_of c.args.wire.now Pop) xs k.found.items) (take_all k.seat-index c.args.seats.now c.loop-seat-test.false) (k.invariant.are T s))
