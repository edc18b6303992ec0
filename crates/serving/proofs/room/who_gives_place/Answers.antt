use Rattle.std.proofs.Common.{◌∙◌, ap, subst}
use Rattle.std.specs.List.{count_by}
use Rattle.serving.specs.Room.{AreCandidates, first_of_most}
use Rattle.serving.specs.Works.{is_open_seat}
use Rattle.serving.specs.declared.wire.Port.TheVariants.{Pop}
use Rattle.serving.proofs.Rooms.{none_given, first_given}
use Rattle.serving.proofs.room.who_gives_place.Goals as goal

pub returns-then-places_taken-lt-MOST_LINKS : goal.returns-then-places_taken-lt-MOST_LINKS
returns-then-places_taken-lt-MOST_LINKS g c = λ T s.
    none_given c.args.clients.now.make_room T (g.W.Wire.address_of c.args.wire.now Pop) c.args.clients.now.seats.items c.places_taken.result
    (c.places_taken.ensures T s ∙ ap (count_by (is_open_seat T)) c.as_slice-seats.ensures.value) c.if-places_taken-lt-MOST_LINKS.true

pub returns : goal.returns
returns g c = λ T s.
    first_given c.args.clients.now.make_room T (g.W.Wire.address_of c.args.wire.now Pop) c.args.clients.now.seats.items c.candidates-found.result.items c.first_with_most.result c.places_taken.result
    c.if-not-clients.false (c.places_taken.ensures T s ∙ ap (count_by (is_open_seat T)) c.as_slice-seats.ensures.value) c.if-places_taken-lt-MOST_LINKS.false
    (subst (λ xs. AreCandidates T (g.W.Wire.address_of c.args.wire.now Pop) xs c.candidates-found.result.items) c.as_slice-seats.ensures.value (c.candidates-found.ensures T s))
    (c.first_with_most.ensures ∙ ap first_of_most c.as_slice.ensures.value)
