-- Texts that come in pieces: what is still to be sent of the octets that follow, and which of them
-- belong to what TOP sends, by what came before (RFC 1939, sections 3 and 7; RFC 822, section 3.1).
use Rattle.std.specs.Prelude.{ℕ, zero, suc, slice_index, Bool, true, false, ◌&&◌, ◌-◌, List, [], ◌∷◌, ◌++◌, ◌==◌, if◌then◌else◌}
use Rattle.mailtext.specs.declared.top_cut.Place.{Place}
use Rattle.mailtext.specs.declared.top_cut.Place.TheVariants.{Front, Return, Inside, Body}

-- ---- stuffing

-- the dot that is put before an octet: before a dot at the front of a line
abbrev pub added_dot : Bool → ℕ → List ℕ
added_dot at_front b = if at_front && b == 46 then 46 ∷ [] else []

-- the octets that follow as they are sent, the first of them at the front of a line or not
abbrev pub stuffed_from : Bool → List ℕ → List ℕ
stuffed_from at_front [] = []
stuffed_from at_front (b ∷ bs) = added_dot at_front b ++ b ∷ stuffed_from (b == 10) bs

-- whether the octet at a place is at the front of a line, the first one or not
abbrev pub front_at : Bool → List ℕ → ℕ → Bool
front_at at_front octets zero = at_front
front_at at_front octets (suc i) = slice_index octets i == 10

-- one dot may be put before its line's first octet is taken
abbrev pub owed_dots : Bool → ℕ
owed_dots at_front = if at_front then 1 else 0

-- ---- what TOP sends

-- where the octets that came end, and how many lines of the body are still to come
pub record Come : Type 0 where
  pub place : Place
  pub left : ℕ

-- at the front of a message
abbrev pub nothing_come : ℕ → Come
nothing_come n = record { place = Front; left = n }

-- within the body
abbrev pub in_body : Place → Bool
in_body Front = false
in_body Return = false
in_body Inside = false
in_body Body = true

-- nothing that follows belongs
abbrev pub is_over : Come → Bool
is_over come = in_body come.place && come.left == 0

-- after a LF: an empty line of the header ends it
abbrev pub behind_newline : Place → ℕ → Come
behind_newline Front n = record { place = Body; left = n }
behind_newline Return n = record { place = Body; left = n }
behind_newline Inside n = record { place = Front; left = n }
behind_newline Body n = record { place = Body; left = n - 1 }

-- after another octet
abbrev pub behind_other : Place → ℕ → Place
behind_other Front b = if b == 13 then Return else Inside
behind_other Return b = Inside
behind_other Inside b = Inside
behind_other Body b = Body

-- after one octet more
abbrev pub behind : Come → ℕ → Come
behind come b =
    if b == 10 then behind_newline come.place come.left
    else record { place = behind_other come.place b; left = come.left }

-- the octets that follow as far as they belong
abbrev pub top_from : Come → List ℕ → List ℕ
top_from come [] = []
top_from come (b ∷ bs) = if is_over come then [] else b ∷ top_from (behind come b) bs
