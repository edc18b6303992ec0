-- How the octets of a connection are cut into command lines (RFC 1939, 3; RFC 2449, 4: at most 255
-- octets with the line's end), and what a cutter holds of them.
use Rattle.std.specs.Prelude.{◌≡◌, ℕ, Bool, true, false, ◌+◌, ◌-◌, List, [], ◌∷◌, ◌++◌, length, take, map, ◌==◌, nat_lt, if◌then◌else◌, slice_index}
use Rattle.std.specs.List.{flat_map, concat}

-- ---- pieces

-- the pieces with an octet put in front of the first piece, if any
abbrev pub onto_first : ℕ → List (List ℕ) → List (List ℕ)
onto_first b [] = []
onto_first b (l ∷ ls) = (b ∷ l) ∷ ls

-- the pieces that an LF ends, without their LF; what follows the last LF is in no piece
abbrev pub pieces : List ℕ → List (List ℕ)
pieces [] = []
pieces (b ∷ bs) = if b == 10 then [] ∷ pieces bs else onto_first b (pieces bs)

-- a line without one CR at its end
abbrev pub without_return : List ℕ → List ℕ
without_return l = if slice_index l (length l - 1) == 13 then take (length l - 1) l else l

-- ---- lines

-- a piece is a command line or too long
pub data Cut : Type 0 where
  Line : List ℕ → Cut
  TooLong : Cut

-- a piece of at most 255 octets, its LF counted, is a line
abbrev pub cut_of : List ℕ → Cut
cut_of piece = if nat_lt (length piece) 255 then Line (without_return piece) else TooLong

-- the lines of a stream
abbrev pub cut : List ℕ → List Cut
cut stream = map cut_of (pieces stream)

-- ---- what a cutter holds

-- the first octets of the current line, at most 255, and whether its LF came
pub record Held : Type 0 where
  pub octets : List ℕ
  pub whole : Bool

-- what a new cutter holds
abbrev pub nothing_held : Held
nothing_held = record { octets = []; whole = false }

-- the held octets of the line whose LF hasn't come: none if the held line is whole
abbrev pub begun : Held → List ℕ
begun held = if held.whole then [] else held.octets

-- the complete line that is held, if any
abbrev pub whole_line : Held → List Cut
whole_line held = if held.whole then cut_of held.octets ∷ [] else []

-- the pieces with octets put in front of the first piece, if any
abbrev pub prefixed : List ℕ → List (List ℕ) → List (List ℕ)
prefixed front [] = []
prefixed front (p ∷ ps) = (front ++ p) ∷ ps

-- the lines that a cutter will show if these octets come next
abbrev pub coming : Held → List ℕ → List Cut
coming held octets = map cut_of (prefixed (begun held) (pieces octets))

-- ---- one piece of input

-- the octets before the first LF, or all
abbrev pub before_newline : List ℕ → List ℕ
before_newline [] = []
before_newline (b ∷ bs) = if b == 10 then [] else b ∷ before_newline bs

-- an LF is among the octets
abbrev pub has_newline : List ℕ → Bool
has_newline [] = false
has_newline (b ∷ bs) = if b == 10 then true else has_newline bs

-- how many octets there are through the first LF, or in all
abbrev pub through_newline : List ℕ → ℕ
through_newline [] = 0
through_newline (b ∷ bs) = if b == 10 then 1 else through_newline bs + 1

-- what is held after these octets came; a complete line that was held is dropped
abbrev pub fed : Held → List ℕ → Held
fed held octets = record { octets = take 255 (begun held ++ before_newline octets); whole = has_newline octets }

-- ---- many pieces of input

-- what a cutter takes of a piece
abbrev pub taken : List ℕ → List ℕ
taken piece = take (through_newline piece) piece

-- the lines that a cutter shows, one after another, as it is fed these pieces
abbrev pub whole_lines : Held → List (List ℕ) → List Cut
whole_lines held [] = []
whole_lines held (piece ∷ more) = whole_line (fed held piece) ++ whole_lines (fed held piece) more

-- a new cutter that is fed any portions, and takes of them just the joined stream, shows the lines
-- of the joined stream, in whatever pieces the stream came
abbrev pub CutsAnyPieces : Type 0
CutsAnyPieces = (stream portions : List (List ℕ)) → flat_map taken portions ≡ concat stream
    → whole_lines nothing_held portions ≡ cut (concat stream)
