-- Which requests are the administration's own, if it has a site: those whose Host (RFC 9110, 7.2)
-- names the site or this machine, and that no page of another origin sent, by what a browser says
-- in Origin and Sec-Fetch-Site.
use Rattle.std.specs.Prelude.{ℕ, ◌==◌, ◌&&◌, ◌||◌, not, nat_le, nat_lt, nat_eq, Bool, true, false}
use Rattle.std.specs.Prelude.{List, [], ◌∷◌, codes, length, map, take, drop, Option, Some, None}
use Rattle.std.specs.List.{list_all, list_any, starts_with, before_first, slice_split}
use Rattle.std.specs.Char.{to_ascii_lowercase, is_ascii_digit}
use Rattle.std.specs.Str.{bytes_eq}
use Rattle.std.specs.Str.Parse.{digits_value}
use Rattle.adminhttp.specs.Fields.{Header, is_named, values_of}

-- the administration's site: its name, if it has one
abbrev pub Site : Type 0
Site = Option (List ℕ)

-- `.`
abbrev pub is_dot : ℕ → Bool
is_dot b = b == 46

-- `:`
abbrev pub is_colon : ℕ → Bool
is_colon b = b == 58

-- ---- hosts

-- two texts are the same, in letters of either case
abbrev pub is_alike : (one other : List ℕ) → Bool
is_alike one other = bytes_eq (map to_ascii_lowercase one) (map to_ascii_lowercase other)

-- what may stand after a host: nothing, or `:` and a port
abbrev pub is_port : List ℕ → Bool
is_port [] = true
is_port (b ∷ digits) = is_colon b && list_all is_ascii_digit digits

-- Host is this one, with a port or without
abbrev pub is_at : (host value : List ℕ) → Bool
is_at host value = is_alike (take (length host) value) host && is_port (drop (length host) value)

-- an octet of an address, in decimal digits
abbrev pub is_octet : List ℕ → Bool
is_octet part =
    nat_lt 0 (length part) && list_all is_ascii_digit part && nat_le (digits_value 10 part) 255

-- an address of 127.0.0.0/8
abbrev pub is_loopback : List ℕ → Bool
is_loopback host =
    starts_with nat_eq host (codes "127.") && length (slice_split is_dot host) == 4
    && list_all is_octet (slice_split is_dot host)

-- Host is an address of 127.0.0.0/8
abbrev pub is_at_loopback : (value : List ℕ) → Bool
is_at_loopback value =
    is_loopback (before_first is_colon value) && is_at (before_first is_colon value) value

-- Host names the site, or this machine
abbrev pub is_own_host : (site value : List ℕ) → Bool
is_own_host site value =
    is_at site value || is_at (codes "localhost") value || is_at (codes "[::1]") value
    || is_at_loopback value

-- ---- what a browser says of the page that sent a request

-- the origin of this scheme and Host
abbrev pub is_origin : (scheme host value : List ℕ) → Bool
is_origin scheme host value =
    starts_with nat_eq value scheme && is_alike (drop (length scheme) value) host

-- the page came from the Host that it asks
abbrev pub is_own_origin : (host value : List ℕ) → Bool
is_own_origin host value =
    is_origin (codes "http://") host value || is_origin (codes "https://") host value

-- it is of the same origin, or no page sent the request
abbrev pub is_own_fetch : (value : List ℕ) → Bool
is_own_fetch value = bytes_eq value (codes "same-origin") || bytes_eq value (codes "none")

-- a header that names another origin
abbrev pub tells_another : (host : List ℕ) → Header → Bool
tells_another host header =
    (is_named (codes "origin") header && not (is_own_origin host header.1))
    || (is_named (codes "sec-fetch-site") header && not (is_own_fetch header.1))

-- ---- requests

-- the only one of these
abbrev pub only_one : List (List ℕ) → Option (List ℕ)
only_one (value ∷ []) = Some value
only_one _ = None

-- a request of these headers to this Host, if it has one Host, is the site's own
abbrev pub is_own_to : (site : List ℕ) → (host : Option (List ℕ)) → List Header → Bool
is_own_to site None headers = false
is_own_to site (Some host) headers =
    is_own_host site host && not (list_any (tells_another host) headers)

-- a request of these headers is the site's own; without a site each is
abbrev pub is_own : Site → List Header → Bool
is_own None headers = true
is_own (Some site) headers = is_own_to site (only_one (values_of (codes "host") headers)) headers
