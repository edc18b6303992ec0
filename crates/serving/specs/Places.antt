-- From where links over sockets came: their places keep it.
use Rattle.std.specs.Prelude.{◌≡◌, Bool, true, false, ◌&&◌, ◌==◌, List, find, option_map}
use Rattle.std.specs.Prelude.{Option, Some, None, is_some}
use Rattle.std.specs.List.{Contains}
use Rattle.std.specs.Net.Socket.{socket_ip}
use Rattle.std.specs.declared.net.socket_addr.SocketAddr.{SocketAddr}
use Rattle.serving.specs.Wires.{Addresses}
use Rattle.serving.specs.declared.wire.Link.{Link}
use Rattle.serving.specs.declared.wire.Port.{Port}
use Rattle.serving.specs.declared.wire.Port.TheVariants.{Pop, Admin}
use Rattle.serving.specs.declared.sockets.Place.{Place}

abbrev pub is_same_port : Port → Port → Bool
is_same_port Pop Pop = true
is_same_port Admin Admin = true
is_same_port _ _ = false

-- the place of a link that is open
abbrev pub is_place_of : Port → Link → Place → Bool
is_place_of port link p =
    p.number == link.number && (is_same_port p.port port && is_some p.stream)

-- the other end of the link of a place
abbrev pub peer_of : Option Place → Option SocketAddr
peer_of None = None
peer_of (Some p) = p.peer

abbrev pub peer_in : List Place → Port → Link → Option SocketAddr
peer_in places port link = peer_of (find (is_place_of port link) places)

abbrev pub address_in : List Place → Addresses
address_in places port link = option_map socket_ip (peer_in places port link)

-- a link has a place, which keeps this as its other end
pub record HasPlace (places : List Place) (port : Port) (link : Link) (peer : SocketAddr)
    : Type 0 where
  pub place : Place
  pub among : Contains places place
  pub is : is_place_of port link place ≡ true
  pub keeps : place.peer ≡ Some peer
