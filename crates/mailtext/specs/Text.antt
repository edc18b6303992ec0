-- Message texts as lines: the kept form, the part that TOP sends, and the lines as a reply has them and as a
-- client reads them (RFC 1939, sections 3 and 7; RFC 822, section 3.1).
use Rattle.std.specs.Prelude.{ℕ, Bool, false, ◌&&◌, ◌+◌, List, [], ◌∷◌, ◌++◌, length, take, map, ◌==◌, if◌then◌else◌, Option, Some, None, codes}
use Rattle.std.specs.List.{flat_map}
use Rattle.std.specs.Str.{bytes_eq}

-- the end of a line, CRLF
abbrev pub line_end : List ℕ
line_end = 13 ∷ 10 ∷ []

-- an octet put in front of the first line; a line of its own if there is none
abbrev pub onto_first_line : ℕ → List (List ℕ) → List (List ℕ)
onto_first_line b [] = (b ∷ []) ∷ []
onto_first_line b (l ∷ ls) = (b ∷ l) ∷ ls

-- whether the octets begin with LF
abbrev pub begins_with_newline : List ℕ → Bool
begins_with_newline [] = false
begins_with_newline (b ∷ bs) = b == 10

-- the lines of a text: LF ends one, one CR directly before it is dropped, and a last unfinished line that
-- isn't empty is a line as it stands
abbrev pub lines_of : List ℕ → List (List ℕ)
lines_of [] = []
lines_of (b ∷ bs) =
    if b == 10 then [] ∷ lines_of bs
    else if b == 13 && begins_with_newline bs then lines_of bs
    else onto_first_line b (lines_of bs)

-- lines, each followed by CRLF
abbrev pub ended : List (List ℕ) → List ℕ
ended ls = flat_map (λ l. l ++ line_end) ls

-- the kept form of a text: its lines, each followed by CRLF
abbrev pub kept_form : List ℕ → List ℕ
kept_form text = ended (lines_of text)

-- a line with a dot in front if it begins with one
abbrev pub stuffed : List ℕ → List ℕ
stuffed [] = []
stuffed (b ∷ bs) = if b == 46 then 46 ∷ b ∷ bs else b ∷ bs

-- the lines of a reply as they are sent
abbrev pub stuffed_lines : List (List ℕ) → List ℕ
stuffed_lines ls = ended (map stuffed ls)

-- the line that ends a reply of many lines
abbrev pub dot_line : List ℕ
dot_line = codes "." ++ line_end

-- a reply of many lines: the first, the stuffed ones, and the dot
abbrev pub multi_line : List ℕ → List (List ℕ) → List ℕ
multi_line first ls = (first ++ line_end) ++ stuffed_lines ls ++ dot_line

-- the lines through the first empty one, and then n more; all if none is empty
abbrev pub top_part : List (List ℕ) → ℕ → List (List ℕ)
top_part [] n = []
top_part ([] ∷ ls) n = [] ∷ take n ls
top_part ((b ∷ bs) ∷ ls) n = (b ∷ bs) ∷ top_part ls n

-- how many octets the kept lines have through the first empty one, or all
abbrev pub header_len : List (List ℕ) → ℕ
header_len ls = length (ended (top_part ls 0))

-- ---- what a client reads of a reply of many lines

-- an octet put in front of the first piece; it belongs to none if there is none
abbrev pub onto_first_piece : ℕ → List (List ℕ) → List (List ℕ)
onto_first_piece b [] = []
onto_first_piece b (p ∷ ps) = (b ∷ p) ∷ ps

-- the pieces that end at a LF, without it; what follows the last LF is in none
abbrev pub pieces : List ℕ → List (List ℕ)
pieces [] = []
pieces (b ∷ bs) = if b == 10 then [] ∷ pieces bs else onto_first_piece b (pieces bs)

-- a piece without one CR at its end
abbrev pub without_return : List ℕ → List ℕ
without_return [] = []
without_return (b ∷ []) = if b == 13 then [] else b ∷ []
without_return (b ∷ c ∷ bs) = b ∷ without_return (c ∷ bs)

-- a line without one dot at its front
abbrev pub without_dot : List ℕ → List ℕ
without_dot [] = []
without_dot (b ∷ bs) = if b == 46 then bs else b ∷ bs

-- a line, and the octets that were read for it, before what was read after it
abbrev pub onto_read : List ℕ → ℕ → Option (List (List ℕ) × ℕ) → Option (List (List ℕ) × ℕ)
onto_read l n None = None
onto_read l n (Some (ls, m)) = Some (l ∷ ls, n + m)

-- the lines before the line that is a dot, and the octets of all of them with the dot's
abbrev pub read_lines : List (List ℕ) → Option (List (List ℕ) × ℕ)
read_lines [] = None
read_lines (p ∷ ps) =
    if bytes_eq (without_return p) (codes ".") then Some ([], length p + 1)
    else onto_read (without_dot (without_return p)) (length p + 1) (read_lines ps)

-- what was read, its lines each followed by CRLF
abbrev pub with_ends : Option (List (List ℕ) × ℕ) → Option (List ℕ × ℕ)
with_ends None = None
with_ends (Some (ls, n)) = Some (ended ls, n)

-- the lines before the dot, each followed by CRLF, and the octets read with the dot's line; none if no such
-- line has come
abbrev pub unstuffed : List ℕ → Option (List ℕ × ℕ)
unstuffed octets = with_ends (read_lines (pieces octets))
