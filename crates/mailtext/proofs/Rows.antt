-- A worked row of byte-stuffing: the lines of a message with dots, as they are sent.
use Rattle.std.proofs.Common.{◌≡◌, [], ◌∷◌, ◌++◌, refl}
use Rattle.std.specs.Prelude.{codes}
use Rattle.mailtext.specs.Text.{stuffed_lines, line_end}

-- a line that begins with a dot is sent with one more, and no other is
sent_lines : stuffed_lines (codes "Subject: a" ∷ [] ∷ codes "hi" ∷ codes "." ∷ codes ".." ∷ codes "a." ∷ [])
    ≡ codes "Subject: a" ++ line_end ++ line_end ++ codes "hi" ++ line_end ++ codes ".." ++ line_end ++ codes "..." ++ line_end ++ codes "a." ++ line_end
sent_lines = refl
