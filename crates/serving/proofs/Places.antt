-- The place that a link is given keeps its other end.
use Rattle.std.proofs.Common.{◌≡◌, ◌<◌, ◌&&◌, ◌==◌, ℕ, Bool, true, List, length, slice_set, Some, is_some, refl, sym, subst, arith, eq-eqb}
use Rattle.std.specs.declared.net.socket_addr.SocketAddr.{SocketAddr}
use Rattle.std.proofs.lemmas.List.{length-set, get_or-set_same}
use Rattle.serving.specs.declared.sockets.Place.{Place}
use Rattle.serving.specs.declared.wire.Link.{Link}
use Rattle.serving.specs.declared.wire.Port.{Port}
use Rattle.serving.specs.declared.wire.Port.TheVariants.{Pop, Admin}
use Rattle.serving.specs.Places.{is_same_port, HasPlace}

same_port : (port : Port) → is_same_port port port ≡ true
same_port Pop = refl
same_port Admin = refl

both_true : (a b : Bool) → a ≡ true → b ≡ true → (a && (b && true)) ≡ true
both_true a b e f = rw (e, f) refl

pub has_place : (places : List Place) (at : ℕ) (place : Place) (link : Link) (peer : SocketAddr) → at < length places → place.number ≡ link.number
    → is_some place.stream ≡ true → place.peer ≡ Some peer
    → HasPlace (slice_set places at place) place.port link peer
has_place places at place link peer within number opens keeps =
    let long = length-set places at place in
    record {
      place = place;
      among = (at, omega (arith, within, long), get_or-set_same places at place place within);
      is = subst (λ b. (place.number == link.number && (is_same_port place.port place.port && b)) ≡ true) (sym opens)
          (both_true (place.number == link.number) (is_same_port place.port place.port) (eq-eqb place.number link.number number) (same_port place.port));
      keeps = keeps;
    }
