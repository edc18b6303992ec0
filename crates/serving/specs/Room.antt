-- Whose place a newcomer gets at a full house, if clients that aren't logged in make room for it.
use Rattle.std.specs.Prelude.{◌≡◌, ℕ, Bool, true, false, not, ◌&&◌, ◌==◌, nat_le, List, [], ◌∷◌}
use Rattle.std.specs.Prelude.{◌++◌, count_by, find, filter_map, Option, Some, None, is_none}
use Rattle.std.specs.List.{list_all}
use Rattle.std.specs.declared.net.ip_addr.IpAddr.{IpAddr}
use Rattle.vault.specs.Records.{Records}
use Rattle.office.specs.Events.{EventTag, Log, Trace}
use Rattle.office.specs.Events as event
use Rattle.office.specs.Trace.{history, is_open}
use Rattle.office.specs.Sessions.{live}
use Rattle.office.specs.Taken.{trace_of}
use Rattle.serving.specs.Guesses.{CountsBy}
use Rattle.serving.specs.Works.{Came, seat_of, is_open_seat}
use Rattle.serving.specs.declared.links.Seat.{Seat}
use Rattle.serving.specs.declared.room.Candidate.{Candidate}
use Rattle.serving.specs.declared.wire.Link.{Link}

-- all places are taken: as many connections are open as an office has at once
abbrev pub is_full_house : Trace → List Seat → Bool
is_full_house T seats = nat_le 64 (count_by (is_open_seat T) seats)

-- a client has a place, and isn't logged in
abbrev pub is_candidate : Trace → Seat → Bool
is_candidate T s = is_open T s.connection && not (live (history T) s.connection)

-- by which number a client counts: that of its address, and none if this isn't known
abbrev pub CountsAs : Option IpAddr → Option ℕ → Type 0
CountsAs None number = number ≡ None
CountsAs (Some address) number = (n : ℕ) × (number ≡ Some n) × CountsBy address n

-- a seat's client, if it is one
abbrev pub IsSeenAs : (is_candidate : Bool) → Option IpAddr → Seat → Option Candidate → Type 0
IsSeenAs false address s seen = seen ≡ None
IsSeenAs true address s seen = (origin : Option ℕ) × CountsAs address origin
    × (seen ≡ Some (record { seat = s; origin = origin }))

-- Of these seats' clients those that aren't logged in, in the same order, and by which number each
-- counts.
pub data AreCandidates (T : Trace) (addresses : Link → Option IpAddr)
    : List Seat → List Candidate → Type 0 where
  NoPlaces : AreCandidates T addresses [] []
  IsCandidate : (s : Seat) (origin : Option ℕ) (seats : List Seat) (candidates : List Candidate)
      → is_candidate T s ≡ true → CountsAs (addresses s.link) origin
      → AreCandidates T addresses seats candidates
      → AreCandidates T addresses (s ∷ seats) (record { seat = s; origin = origin } ∷ candidates)
  IsNoCandidate : (s : Seat) (seats : List Seat) (candidates : List Candidate)
      → is_candidate T s ≡ false → AreCandidates T addresses seats candidates
      → AreCandidates T addresses (s ∷ seats) candidates

-- two count by the same number, or neither's address is known
abbrev pub is_same : (one other : Option ℕ) → Bool
is_same None other = is_none other
is_same (Some n) None = false
is_same (Some n) (Some m) = n == m

-- how many places of candidates an address holds
abbrev pub held : List Candidate → (origin : Option ℕ) → ℕ
held candidates origin = count_by (λ (c : Candidate). is_same c.origin origin) candidates

-- no address holds more than this one's
abbrev pub holds_most : List Candidate → Candidate → Bool
holds_most candidates c =
    list_all (λ (d : Candidate). nat_le (held candidates d.origin) (held candidates c.origin)) candidates

-- the first of them: the one that has waited longest
abbrev pub seat_in : Option Candidate → Option Seat
seat_in None = None
seat_in (Some c) = Some c.seat

abbrev pub first_of_most : List Candidate → Option Seat
first_of_most candidates = seat_in (find (holds_most candidates) candidates)

-- Whose place a newcomer gets: nobody's, unless clients make room and the house is full.
abbrev pub GivesPlaceIf : (make_room is_full : Bool) → Trace → (Link → Option IpAddr) → List Seat
    → Option Seat → Type 0
GivesPlaceIf false is_full T addresses seats who = who ≡ None
GivesPlaceIf true false T addresses seats who = who ≡ None
GivesPlaceIf true true T addresses seats who = (candidates : List Candidate)
    × AreCandidates T addresses seats candidates × (who ≡ first_of_most candidates)

abbrev pub GivesPlace : (make_room : Bool) → Trace → (Link → Option IpAddr) → List Seat
    → Option Seat → Type 0
GivesPlace make_room T addresses seats who =
    GivesPlaceIf make_room (is_full_house T seats) T addresses seats who

-- its connection is Gone, and nothing else was done
abbrev pub IsGoneOf : Option Seat → Log → Type 0
IsGoneOf None given = given ≡ []
IsGoneOf (Some s) given = (m : EventTag) × (given ≡ (event.Gone s.connection, m) ∷ [])

-- Links came, and for each an opening was asked for, right after the end of the connection whose
-- place it got, if one was to make room then; and no other event was given (the newest first).
-- `addresses` are those that the wire knew then.
pub data HaveRoom (make_room : Bool) (B : Records) (older : Log) (seats : List Seat)
    : List Came → Log → Type 0 where
  NoneCame : HaveRoom make_room B older seats [] []
  OneCame : (addresses : Link → Option IpAddr) (who : Option Seat) (last : Came)
      (came came_then : List Came) (given gone : Log) (m : EventTag)
      → HaveRoom make_room B older seats came given
      → GivesPlace make_room (trace_of B (given ++ older)) addresses
      (seats ++ filter_map seat_of came) who
      → IsGoneOf who gone → came_then ≡ came ++ last ∷ []
      → HaveRoom make_room B older seats came_then ((event.Connect, m) ∷ (gone ++ given))
