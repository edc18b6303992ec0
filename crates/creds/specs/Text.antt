-- How a short ASCII text lies in an array: the text in front, zeros after it.
use Rattle.std.specs.Prelude.{◌≡◌, ◌≤◌, ◌-◌, ◌++◌, ℕ, List, length, take, replicate}
use Rattle.std.specs.Str.{IsAscii}
use Rattle.std.proofs.lemmas.List.{length-take-le}

-- the text in `room` octets, zeros after it
abbrev pub padded : ℕ → List ℕ → List ℕ
padded room text = text ++ replicate (room - length text) 0

-- the fields hold an ASCII text of `len` octets
pub record HoldsText (room : ℕ) (bytes : List ℕ) (len : ℕ) : Type 0 where
  pub fits : len ≤ room
  pub size : length bytes ≡ room
  pub padding : bytes ≡ padded room (take len bytes)
  pub ascii : IsAscii (take len bytes)

-- a text that is held has as many octets as are held
pub length-held : (room : ℕ) (bytes : List ℕ) (len : ℕ) → HoldsText room bytes len → length (take len bytes) ≡ len
length-held room bytes len h = length-take-le len bytes (rw h.size h.fits)
