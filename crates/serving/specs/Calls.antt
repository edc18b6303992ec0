-- What a wire was asked, and what it answered; and what is seen of a list of such calls.
use Rattle.std.specs.Prelude.{ℕ, Bool, true, false, ◌==◌, ◌+◌, ◌&&◌, if◌then◌else◌}
use Rattle.std.specs.Prelude.{List, [], ◌∷◌, ◌++◌, filter_map, Option, Some, None}
use Rattle.std.specs.List.{list_any}
use Rattle.office.specs.Expected.{most_in_a_piece}
use Rattle.serving.specs.Wires.{is_fault}
use Rattle.serving.specs.declared.wire.Link.{Link}
use Rattle.serving.specs.declared.wire.Port.{Port}
use Rattle.serving.specs.declared.wire.Port.TheVariants.{Pop, Admin}
use Rattle.serving.specs.declared.wire.Io.{Io}
use Rattle.serving.specs.declared.wire.Io.TheVariants.{Count, Later}

pub data Call : Type 0 where
  -- to wait, so many milliseconds at most
  Waited : (millis : ℕ) → Call
  -- for the next link that came at a port
  Accepted : Port → Option Link → Call
  -- to show what comes next on a link, and these octets were shown
  Looked : Port → Link → Io → (octets : List ℕ) → Call
  -- to read from a link, so many octets at most, and these were read
  Read : Port → Link → (room : ℕ) → Io → (octets : List ℕ) → Call
  -- to write on a link, which was offered so many octets, and these were counted
  Wrote : Port → Link → (offered : ℕ) → Io → (octets : List ℕ) → Call
  -- to close a link
  Closed : Port → Link → Call

-- ---- what is seen of calls, the newest last

-- how long each wait might be
abbrev pub wait_of : Call → Option ℕ
wait_of (Waited millis) = Some millis
wait_of _ = None

abbrev pub waits : List Call → List ℕ
waits calls = filter_map wait_of calls

-- each client's link that came
abbrev pub arrival_of : Call → Option Link
arrival_of (Accepted Pop (Some link)) = Some link
arrival_of _ = None

abbrev pub arrivals : List Call → List Link
arrivals calls = filter_map arrival_of calls

-- no further client's link waited
abbrev pub tells_none : Call → Bool
tells_none (Accepted Pop None) = true
tells_none _ = false

abbrev pub none_waited : List Call → Bool
none_waited calls = list_any tells_none calls

-- each client's link that was closed
abbrev pub closing_of : Call → Option Link
closing_of (Closed Pop link) = Some link
closing_of _ = None

abbrev pub closings : List Call → List Link
closings calls = filter_map closing_of calls

-- it is of the administration's port
abbrev pub is_admin : Call → Bool
is_admin (Accepted Admin link) = true
is_admin (Looked Admin link io octets) = true
is_admin (Read Admin link room io octets) = true
is_admin (Wrote Admin link offered io octets) = true
is_admin (Closed Admin link) = true
is_admin _ = false

-- how many octets are asked for at once at most
abbrev pub most_at_once : ℕ
most_at_once = most_in_a_piece

-- a client's link was read from, whatever that gave, and as many octets were asked for as may be at
-- once
abbrev pub is_read_of : Link → Call → Bool
is_read_of link (Read Pop l room io octets) = l.number == link.number && room == most_at_once
is_read_of link _ = false

-- it took nothing for now
abbrev pub is_later_of : Link → Call → Bool
is_later_of link (Wrote Pop l offered Later octets) = l.number == link.number
is_later_of link _ = false

-- it took octets
abbrev pub is_taking_of : Link → Call → Bool
is_taking_of link (Wrote Pop l offered (Count n) octets) = l.number == link.number
is_taking_of link _ = false

-- a read from it or a write on it gave its end, or that it is broken
abbrev pub is_cut_of : Link → Call → Bool
is_cut_of link (Read Pop l room io octets) = l.number == link.number && is_fault io
is_cut_of link (Wrote Pop l offered io octets) = l.number == link.number && is_fault io
is_cut_of link _ = false

abbrev pub is_cut : Link → List Call → Bool
is_cut link calls = list_any (is_cut_of link) calls

-- how many octets it took
abbrev pub count_taken : Link → Call → ℕ
count_taken link (Wrote Pop l offered (Count n) octets) = if l.number == link.number then n else 0
count_taken link _ = 0

abbrev pub octets_taken : Link → List Call → ℕ
octets_taken link [] = 0
octets_taken link (call ∷ calls) = count_taken link call + octets_taken link calls

-- a link came or was closed, or octets were read from it or taken by it
abbrev pub is_moving : Call → Bool
is_moving (Accepted port (Some link)) = true
is_moving (Read port link room (Count n) octets) = true
is_moving (Wrote port link offered (Count n) octets) = true
is_moving (Closed port link) = true
is_moving _ = false

abbrev pub has_moved : List Call → Bool
has_moved calls = list_any is_moving calls

-- ---- what a wire was asked, and nothing else

pub record WasAsked {W : Type 0} (Asked : W → List Call → Type 0) (wire wire_then : W)
    (calls : List Call) : Type 0 where
  pub is : (before : List Call) → Asked wire before → Asked wire_then (before ++ calls)
