-- The Message-ID that a mail's head tells, as the log writes it (RFC 5322, 3.6.4, without its
-- obsolete forms, and without comments or blanks).
use Rattle.std.specs.Prelude.{ℕ, Bool, true, false, not, ◌&&◌, ◌||◌, ◌==◌, nat_le, List, [], ◌∷◌}
use Rattle.std.specs.Prelude.{length, map, take, drop, filter, codes, Option, Some, None}
use Rattle.std.specs.Prelude.{if◌then◌else◌}
use Rattle.std.specs.List.{list_any}
use Rattle.std.specs.Char.{is_ascii_alphanumeric, to_ascii_lowercase}
use Rattle.std.specs.Str.{bytes_eq}
use Rattle.mailtext.specs.Text.{pieces, without_return}

-- an octet of an atom (RFC 5322, 3.2.3)
abbrev pub is_atext : ℕ → Bool
is_atext b = is_ascii_alphanumeric b || list_any (λ c. c == b) (codes "!#$%&'*+-/=?^_`{|}~")

-- an octet between square brackets (RFC 5322, 3.4.1)
abbrev pub is_dtext : ℕ → Bool
is_dtext b = (nat_le 33 b && nat_le b 90) || (nat_le 94 b && nat_le b 126)

-- octets between square brackets, then ] and >
abbrev pub is_literal : List ℕ → Bool
is_literal [] = false
is_literal (b ∷ bs) = if b == 93 then bytes_eq bs (codes ">") else is_dtext b && is_literal bs

-- atoms with dots between them, then >; at the front of an atom or not
abbrev pub is_atoms : (at_front : Bool) → List ℕ → Bool
is_atoms at_front [] = false
is_atoms at_front (b ∷ bs) =
    if b == 62 then not at_front && length bs == 0
    else if b == 46 then not at_front && is_atoms true bs
    else is_atext b && is_atoms false bs

-- what stands after the @: a literal, or atoms
abbrev pub is_right : List ℕ → Bool
is_right [] = false
is_right (b ∷ bs) = if b == 91 then is_literal bs else is_atoms true (b ∷ bs)

-- atoms with dots between them, @, and what stands after it
abbrev pub is_left : (at_front : Bool) → List ℕ → Bool
is_left at_front [] = false
is_left at_front (b ∷ bs) =
    if b == 64 then not at_front && is_right bs
    else if b == 46 then not at_front && is_left true bs
    else is_atext b && is_left false bs

-- a Message-ID from its < to its >
abbrev pub is_enclosed : List ℕ → Bool
is_enclosed [] = false
is_enclosed (b ∷ bs) = b == 60 && is_left true bs

-- one that the log writes has so many octets at most
abbrev pub most_octets : ℕ
most_octets = 200

abbrev pub is_message_id : List ℕ → Bool
is_message_id text = nat_le (length text) most_octets && is_enclosed text

-- ---- in a head

-- a line tells the Message-ID, by its name in letters of either case
abbrev pub is_id_line : List ℕ → Bool
is_id_line line = bytes_eq (map to_ascii_lowercase (take 11 line)) (codes "message-id:")

-- without one blank at the front
abbrev pub behind_blank : List ℕ → List ℕ
behind_blank [] = []
behind_blank (b ∷ bs) = if b == 32 || b == 9 then bs else b ∷ bs

-- the Message-ID of a line, if it is all that stands after the name
abbrev pub id_of : List ℕ → Option (List ℕ)
id_of text = if is_message_id text then Some text else None

abbrev pub id_of_line : List ℕ → Option (List ℕ)
id_of_line line = id_of (behind_blank (without_return (drop 11 line)))

-- the only one of some lines
abbrev pub only : List (List ℕ) → Option (List ℕ)
only [] = None
only (line ∷ []) = Some line
only (line ∷ second ∷ lines) = None

-- the lines of a head that tell it
abbrev pub id_lines : List ℕ → List (List ℕ)
id_lines head = filter is_id_line (pieces head)

abbrev pub id_in : Option (List ℕ) → Option (List ℕ)
id_in None = None
id_in (Some line) = id_of_line line

-- the Message-ID of a head
abbrev pub message_id_in : List ℕ → Option (List ℕ)
message_id_in head = id_in (only (id_lines head))
