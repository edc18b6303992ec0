-- Logins that were refused, and those that are kept back after them: an address counts by a number,
-- its origin, and a list has the last refusal of each origin and login name, the oldest refusal
-- first.
use Rattle.std.specs.Prelude.{◌≡◌, ℕ, Bool, true, false, not, ◌&&◌, ◌+◌, ◌-◌, ◌*◌, ◌==◌, nat_lt}
use Rattle.std.specs.Prelude.{nat_le, ◌≤◌}
use Rattle.std.specs.List.{All}
use Rattle.std.specs.Prelude.{min, List, [], ◌∷◌, ◌++◌, length, drop, filter, find, slice_index}
use Rattle.std.specs.Prelude.{Option, Some, None, if◌then◌else◌}
use Rattle.std.specs.Net.Addr.{ipv4_bits, ipv6_segments, IsCanonicalOf}
use Rattle.std.specs.Str.{bytes_eq}
use Rattle.creds.specs.declared.login_name.LoginName.{LoginName}
use Rattle.std.specs.declared.net.ip_addr.IpAddr.{IpAddr}
use Rattle.std.specs.declared.net.ip_addr.IpAddr.TheVariants.{V4, V6}
use Rattle.serving.specs.declared.guesses.Refusal.{Refusal}
use Rattle.serving.specs.declared.links.Links.{Links}

-- ---- origins

-- the first 64 bits of an IPv6 address
abbrev pub network : List ℕ → ℕ
network segments =
    ((slice_index segments 0 * 65536 + slice_index segments 1) * 65536 + slice_index segments 2) * 65536
    + slice_index segments 3

-- of an IPv4 address all 32 bits, of an IPv6 address the first 64
abbrev pub origin : IpAddr → ℕ
origin (V4 four) = ipv4_bits four
origin (V6 six) = network (ipv6_segments six)

-- an address counts by this number: an IPv4 address as itself, also if it is written as an IPv6 one
abbrev pub CountsBy : IpAddr → (number : ℕ) → Type 0
CountsBy (V4 four) number = number ≡ ipv4_bits four
CountsBy (V6 six) number = (c : IpAddr) × IsCanonicalOf six c × (number ≡ origin c)

-- By which number a client's guesses count: by none if guesses aren't slow, if the client is logged
-- in, or if it isn't known from where it comes.
abbrev pub IsOriginOf : (are_slow is_logged_in : Bool) → Option IpAddr → Option ℕ → Type 0
IsOriginOf false is_logged_in address number = number ≡ None
IsOriginOf true true address number = number ≡ None
IsOriginOf true false None number = number ≡ None
IsOriginOf true false (Some address) number = (n : ℕ) × (number ≡ Some n) × CountsBy address n

-- ---- refusals

-- a place has this login name
abbrev pub has_name : (name : LoginName) → Option LoginName → Bool
has_name name None = false
has_name name (Some n) = bytes_eq n.clerk name.clerk && bytes_eq n.maildrop name.maildrop

-- a refusal is of this origin and this login name
abbrev pub is_of : (origin : ℕ) (name : LoginName) → Refusal → Bool
is_of origin name r = r.origin == origin && has_name name r.name

-- the last refusal of an origin and a login name
abbrev pub refusal_of : (origin : ℕ) (name : LoginName) → List Refusal → Option Refusal
refusal_of origin name refusals = find (λ r. is_of origin name r) refusals

-- all but those of them
abbrev pub without : (origin : ℕ) (name : LoginName) → List Refusal → List Refusal
without origin name refusals = filter (λ r. not (is_of origin name r)) refusals

-- at this moment a refusal holds the next login of its origin and name back
abbrev pub holds_back : (now : ℕ) → Option Refusal → Bool
holds_back now None = false
holds_back now (Some r) = nat_lt (now - r.at) r.seconds

-- for how many seconds a refusal at this moment does, by the refusal before it: 1 if none was
-- within ten minutes, and else twice as many as that one, at most 15
abbrev pub next_seconds : (now : ℕ) → Option Refusal → ℕ
next_seconds now None = 1
next_seconds now (Some r) = if nat_le 600 (now - r.at) then 1 else min (r.seconds * 2) 15

-- one refusal fewer, if 1,024 are there: the oldest goes
abbrev pub with_room : List Refusal → List Refusal
with_room refusals = if nat_le 1024 (length refusals) then drop 1 refusals else refusals

-- a refusal at this moment, behind these
abbrev pub one_more : (now origin : ℕ) (name : LoginName) → List Refusal → Refusal
one_more now origin name refusals = record {
  origin = origin;
  name = Some name;
  at = now;
  seconds = next_seconds now (refusal_of origin name refusals);
}

-- a refusal keeps the next login back for 1 to 15 seconds
abbrev pub IsPacing : Refusal → Type 0
IsPacing r = (1 ≤ r.seconds) × (r.seconds ≤ 15)

abbrev pub ArePacing : List Refusal → Type 0
ArePacing refusals = All IsPacing refusals

-- so each does that serving keeps
abbrev pub AllArePacing : Links → Type 0
AllArePacing links = ArePacing links.clients.guesses.refusals.items

-- What becomes of the refusals after a line of a client that counts by an origin: if it was a login
-- that was refused, one more under its name; if the client is logged in by it, none of its origin
-- and name. Else they stay.
abbrev pub AreNotedSo : (now : ℕ) (origin : Option ℕ) (login : Option LoginName)
    (was_refused is_logged_in : Bool) (old new : List Refusal) → Type 0
AreNotedSo now None login was_refused is_logged_in old new = new ≡ old
AreNotedSo now (Some origin) None was_refused is_logged_in old new = new ≡ old
AreNotedSo now (Some origin) (Some name) true is_logged_in old new =
    new ≡ with_room (without origin name old) ++ one_more now origin name old ∷ []
AreNotedSo now (Some origin) (Some name) false true old new = new ≡ without origin name old
AreNotedSo now (Some origin) (Some name) false false old new = new ≡ old
