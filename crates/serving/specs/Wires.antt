-- What a wire tells of its links: each of a port has a number, from 0 on, in the order in which they were accepted.
use Rattle.std.specs.Prelude.{◌≡◌, ◌≤◌, ◌<◌, ⊤, ℕ, Bool, true, false, not, ◌&&◌, ◌||◌, nat_lt, ◌+◌, ◌==◌, List, [], ◌++◌, take, Option, Some, None, if◌then◌else◌}
use Rattle.std.specs.declared.net.ip_addr.IpAddr.{IpAddr}
use Rattle.std.specs.declared.net.socket_addr.SocketAddr.{SocketAddr}
use Rattle.office.specs.Outcomes.{Outcome}
use Rattle.office.specs.Outcomes as outcome
use Rattle.serving.specs.declared.wire.Link.{Link}
use Rattle.serving.specs.declared.wire.Port.{Port}
use Rattle.serving.specs.declared.wire.Port.TheVariants.{Pop, Admin}
use Rattle.serving.specs.declared.wire.Io.{Io}
use Rattle.serving.specs.declared.wire.Io.TheVariants.{Count, End, Broken}
use Rattle.serving.specs.declared.wire.Refusal.{Refusal}

-- of one port: how many links were accepted; of each link all octets that were read from it, and all that it counted as written; whether it is over: a read or a write told its end or that it is broken, or it was closed; and whether any read or write
-- came astray: on a link that was over, or that was never accepted
pub record Told : Type 0 where
  pub accepted : ℕ
  pub read : ℕ → List ℕ
  pub written : ℕ → List ℕ
  pub over : ℕ → Bool
  pub strayed : Bool

-- no link came, no octet was read or written on any, and nothing came astray
pub record IsFresh (t : Told) : Type 0 where
  pub accepted : t.accepted ≡ 0
  pub read : (k : ℕ) → t.read k ≡ []
  pub written : (k : ℕ) → t.written k ≡ []
  pub straight : t.strayed ≡ false

-- the same is told of each link
pub record SayAlike (t u : Told) : Type 0 where
  pub accepted : t.accepted ≡ u.accepted
  pub read : (k : ℕ) → t.read k ≡ u.read k
  pub written : (k : ℕ) → t.written k ≡ u.written k
  pub over : (k : ℕ) → k < t.accepted → t.over k ≡ u.over k
  pub strayed : t.strayed ≡ u.strayed

-- ---- both ports

pub record ToldOfPorts : Type 0 where
  pub pop : Told
  pub admin : Told

-- what is told of one port
abbrev pub told_at : Port → ToldOfPorts → Told
told_at Pop t = t.pop
told_at Admin t = t.admin

-- it changes
abbrev pub at_port : Port → (Told → Told) → ToldOfPorts → ToldOfPorts
at_port Pop change t = record { pop = change t.pop; admin = t.admin }
at_port Admin change t = record { pop = t.pop; admin = change t.admin }

-- no link came to either
abbrev pub AreFresh : ToldOfPorts → Type 0
AreFresh t = IsFresh t.pop × IsFresh t.admin

-- the same is told of each
abbrev pub SayAlikeOfPorts : ToldOfPorts → ToldOfPorts → Type 0
SayAlikeOfPorts t u = SayAlike t.pop u.pop × SayAlike t.admin u.admin

-- a link that was accepted and isn't over
abbrev pub is_live : Told → ℕ → Bool
is_live t k = nat_lt k t.accepted && not (t.over k)

-- ---- what changes

-- octets more at one number
abbrev pub more_at : (number : ℕ) (more : List ℕ) → (ℕ → List ℕ) → ℕ → List ℕ
more_at number more octets k = if k == number then octets k ++ more else octets k

-- one number is over from now on, if it is now
abbrev pub over_at : (number : ℕ) (now : Bool) → (ℕ → Bool) → ℕ → Bool
over_at number now over k = if now && k == number then true else over k

-- one number isn't over
abbrev pub begun_at : (number : ℕ) → (ℕ → Bool) → ℕ → Bool
begun_at number over k = if k == number then false else over k

-- a read or a write told the end of a link, or that it is broken
abbrev pub is_fault : Io → Bool
is_fault End = true
is_fault Broken = true
is_fault _ = false

-- one link more, from which nothing was read and on which nothing was written
abbrev pub has_accepted : Told → Told
has_accepted t = record {
  accepted = t.accepted + 1;
  read = t.read;
  written = t.written;
  over = begun_at t.accepted t.over;
  strayed = t.strayed;
}

-- a read was made on a link, which gave these octets
abbrev pub has_read : Told → ℕ → Io → List ℕ → Told
has_read t number io octets = record {
  accepted = t.accepted;
  read = more_at number octets t.read;
  written = t.written;
  over = over_at number (is_fault io) t.over;
  strayed = t.strayed || not (is_live t number);
}

-- a write was made on a link, which counted these octets
abbrev pub has_written : Told → ℕ → Io → List ℕ → Told
has_written t number io octets = record {
  accepted = t.accepted;
  read = t.read;
  written = more_at number octets t.written;
  over = over_at number (is_fault io) t.over;
  strayed = t.strayed || not (is_live t number);
}

-- a link was closed
abbrev pub has_closed : Told → ℕ → Told
has_closed t number = record {
  accepted = t.accepted;
  read = t.read;
  written = t.written;
  over = over_at number true t.over;
  strayed = t.strayed;
}

-- the octets that a count counts
abbrev pub counted : Io → List ℕ → List ℕ
counted (Count n) octets = take n octets
counted _ octets = []

-- a count is at least 1, and within the room
abbrev pub IsWithin : ℕ → Io → Type 0
IsWithin room (Count n) = (0 < n) × (n ≤ room)
IsWithin room _ = ⊤

-- a link that was accepted is the port's next
abbrev pub IsAccepted : (ToldOfPorts → Type 0) → Port → ToldOfPorts → Option Link → Type 0
IsAccepted Tells port t None = Tells t
IsAccepted Tells port t (Some link) = (link.number ≡ (told_at port t).accepted) × Tells (at_port port has_accepted t)

-- from where each link of a port came, if that is known
abbrev pub Addresses : Type 0
Addresses = Port → Link → Option IpAddr

-- the other end of each, if that is known
abbrev pub Peers : Type 0
Peers = Port → Link → Option SocketAddr

-- for what each client's link was closed by the wire itself, if it was
abbrev pub Refusals : Type 0
Refusals = Link → Option Refusal

-- the number that was opened, if one was
abbrev pub opened_by : Outcome → Option ℕ
opened_by (outcome.Opened c) = Some c
opened_by _ = None
