-- Where the head of a request begins and ends, by its lines alone. A line ends with LF or CR LF;
-- empty lines in front of a request are dropped (RFC 9112, 2.2).
use Rattle.std.specs.Prelude.{ℕ, ◌+◌, ◌==◌, ◌&&◌, if◌then◌else◌, nat_lt, Bool, true, List, [], ◌∷◌, take, drop, Option, Some, None, option_map}

-- the octets of the empty line that a text begins with, LF or CR LF; 0 if it begins with none
abbrev pub empty_line : List ℕ → ℕ
empty_line [] = 0
empty_line (b ∷ []) = if b == 10 then 1 else 0
empty_line (b ∷ c ∷ rest) = if b == 10 then 1 else if b == 13 && c == 10 then 2 else 0

-- the octets of all empty lines in front
unfoldable pub empty_lines : List ℕ → ℕ
empty_lines [] = 0
empty_lines (b ∷ []) = if b == 10 then 1 else 0
empty_lines (b ∷ c ∷ rest) =
    if b == 10 then 1 + empty_lines (c ∷ rest) else if b == 13 && c == 10 then 2 + empty_lines rest else 0

-- how many octets there are through the first empty line; `fresh`: the text stands at a line's
-- beginning
unfoldable pub through_empty_line : (fresh : Bool) → List ℕ → Option ℕ
through_empty_line fresh [] = None
through_empty_line fresh (b ∷ rest) =
    if fresh && nat_lt 0 (empty_line (b ∷ rest)) then Some (empty_line (b ∷ rest))
    else option_map (λ n. 1 + n) (through_empty_line (b == 10) rest)

-- the place and the length of the head that begins at `start`, if it ends
abbrev pub head_from : (start : ℕ) → List ℕ → Option (ℕ × ℕ)
head_from start front = option_map (λ n. (start, n)) (through_empty_line true (drop start front))

-- a head ends within so many octets, empty lines in front of it included
abbrev pub most_in_head : ℕ
most_in_head = 8192

-- the head's place and length, if it ends within the first 8,192 octets
abbrev pub head_at : List ℕ → Option (ℕ × ℕ)
head_at b = head_from (empty_lines (take most_in_head b)) (take most_in_head b)
