-- Worked rows of scripts and of their TEXTs.
use Rattle.std.proofs.Common.{◌≡◌, Ok, Err, Some, None, [], ◌∷◌, refl}
use Rattle.std.specs.Prelude.{codes}
use Rattle.office.specs.Answers.{AddMaildrop}
use Rattle.office.specs.Events.{Connect, Bytes, Took, Admin}
use Rattle.converse.specs.Escapes.{escaped, unescaped}
use Rattle.converse.specs.Script.{Does, Drains, script_of}

-- each line asks for something, but for comments and empty ones
every_line : script_of (codes "# a client\nconnect\n\nbytes 1 NOOP\\r\\n\ntook 1 5\ndrain 1\nmaildrop add orders\n")
    ≡ Ok (Does Connect ∷ Does (Bytes 1 (codes "NOOP\r\n")) ∷ Does (Took 1 5) ∷ Drains 1 ∷ Does (Admin (AddMaildrop (codes "orders"))) ∷ [])
every_line = refl

-- the first line of no form is the fault; comments are counted
first_fault : script_of (codes "# a client\nconnect\ntick x\nnothing\n") ≡ Err 3
first_fault = refl

-- digits of either case
read_digits : unescaped (codes "a\\x4f\\x4F\\\\") ≡ Some (97 ∷ 79 ∷ 79 ∷ 92 ∷ [])
read_digits = refl

-- a `\` that begins no escape
no_escape : unescaped (codes "a\\q") ≡ None
no_escape = refl

-- octets beyond printable ASCII are written by their digits
written_digits : escaped (97 ∷ 13 ∷ 10 ∷ 92 ∷ 127 ∷ []) ≡ codes "a\\r\\n\\\\\\x7f"
written_digits = refl
