-- The three ways in which the lines of a text are written out: as they are kept, as a reply sends them, and as a
-- client reads them (RFC 1939, section 3).
use Rattle.std.specs.Prelude.{List, ℕ, map}
use Rattle.mailtext.specs.Text.{lines_of, ended, kept_form, stuffed, stuffed_lines, without_dot}
use Rattle.mailtext.specs.declared.lines.Dots.{Dots}
use Rattle.mailtext.specs.declared.lines.Dots.TheVariants.{Kept, Doubled, Dropped}

-- a line as it is written, by what becomes of a dot at its front
abbrev pub dotted : Dots → List ℕ → List ℕ
dotted Kept l = l
dotted Doubled l = stuffed l
dotted Dropped l = without_dot l

-- the lines of a text, each followed by CRLF, by what becomes of a dot at the front of a line
abbrev pub written : Dots → List ℕ → List ℕ
written Kept text = kept_form text
written Doubled text = stuffed_lines (lines_of text)
written Dropped text = ended (map without_dot (lines_of text))
