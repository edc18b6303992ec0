use Rattle.std.proofs.Common.{rules, ◌<◌, ◌≤◌, length, refl}
use Rattle.serving.proofs.Places.{has_place}
use Rattle.serving.proofs.Waiting.{seated_behind}
use Rattle.serving.proofs.sockets.SocketWire.seat.Goals as goal

pub returns-clause-place : goal.returns-clause-place
returns-clause-place c =
    let within : c.in_ok-at.at < length c.args.self.now.places.items = search rules in
    has_place c.args.self.now.places.items c.in_ok-at.at _ _ c.args.peer within refl refl refl

pub returns-clause-behind : goal.returns-clause-behind
returns-clause-behind c = λ turn less.
    (let within : c.in_ok-at.at < length c.args.self.now.places.items = search rules in
    let fits : c.args.self.now.turns ≤ 18446744073709551615 = search rules in
    seated_behind turn c.args.self.now.turns c.in_ok-place.place.now.at 18446744073709551615 c.args.self.now.places.items c.in_ok-at.at _ within c.saturating_add.ensures fits less)
