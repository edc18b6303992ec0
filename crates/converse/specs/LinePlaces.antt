-- Which word of a script's line is at fault, if the line is of no form. Words are counted from
-- 0, with one space between them; the last field of a form has all that is left of the line. It is
-- the first word that isn't there, or else the first, in the order of Script, without its form.
use Rattle.std.specs.Prelude.{ℕ, Bool, is_some, List, Option, Some, None, codes, Result, Ok, Err}
use Rattle.std.specs.Prelude.{if◌then◌else◌}
use Rattle.std.specs.Str.{bytes_eq}
use Rattle.creds.specs.Names.{name_of, deposit_id_of}
use Rattle.office.specs.Numbers.{number_of}
use Rattle.converse.specs.Escapes.{unescaped}
use Rattle.converse.specs.Script.{ScriptLine, cut_field, four_fields, line_seen, two_fields}
use Rattle.converse.specs.declared.script.Line.{Line}

-- the place by two fields, if there are two; else that of the second, `missing`
abbrev pub by_two : (missing : ℕ) → (List ℕ → List ℕ → ℕ) → Option (List ℕ × List ℕ) → ℕ
by_two missing by None = missing
by_two missing by (Some fields) = by fields.0 fields.1

-- `C N`, after `took`, and `C TEXT`, after `bytes`
abbrev pub number_first : (rest : List ℕ) → ℕ
number_first rest =
    by_two 2 (λ number text. if is_some (number_of number) then 2 else 1) (two_fields rest)

-- of four fields the first, from 1, that isn't there
abbrev pub lacks_from : (rest : List ℕ) → ℕ
lacks_from rest = by_two 2 (λ a rest. by_two 3 (λ b rest. 4) (two_fields rest)) (two_fields rest)

-- the place by four fields, if there are four; else that of the first that isn't there
abbrev pub by_four : (missing : ℕ) → (List ℕ × List ℕ × List ℕ × List ℕ → ℕ)
    → Option (List ℕ × List ℕ × List ℕ × List ℕ) → ℕ
by_four missing by None = missing
by_four missing by (Some fields) = by fields

-- the first of the fields before the last that hasn't its form, or else the last
abbrev pub first_of_four : (first second third : Bool) → ℕ
first_of_four first second third =
    if first then (if second then (if third then 4 else 3) else 2) else 1

-- `MAILDROP CLASS ID TEXT`, after `deposit`
abbrev pub deposit_place : (rest : List ℕ) → ℕ
deposit_place rest =
    by_four (lacks_from rest) (λ fields. first_of_four (is_some (name_of fields.0))
    (is_some (name_of fields.1)) (is_some (deposit_id_of fields.2))) (four_fields rest)

-- `CLERK MAILDROP CLASS ACTION`, after `explain`
abbrev pub explain_place : (rest : List ℕ) → ℕ
explain_place rest =
    by_four (lacks_from rest) (λ fields. first_of_four (is_some (name_of fields.0))
    (is_some (name_of fields.1)) (is_some (name_of fields.2))) (four_fields rest)

-- `NAME TEXT`, after `clerk apop` and `clerk pass`: the TEXT's escapes come first
abbrev pub secret_place : (rest : List ℕ) → ℕ
secret_place rest =
    by_two 3 (λ clerk text.
    if is_some (unescaped text) then (if is_some (name_of clerk) then 3 else 2) else 3)
    (two_fields rest)

-- after `clerk`
abbrev pub clerk_place : (rest : List ℕ) → ℕ
clerk_place rest =
    by_two 2 (λ word rest.
    if bytes_eq word (codes "apop") then secret_place rest
    else if bytes_eq word (codes "pass") then secret_place rest
    else if bytes_eq word (codes "drop") then 2
    else if bytes_eq word (codes "show") then 2
    else 1) (two_fields rest)

-- after `maildrop`
abbrev pub maildrop_place : (rest : List ℕ) → ℕ
maildrop_place rest =
    by_two 2 (λ word name.
    if bytes_eq word (codes "add") then 2
    else if bytes_eq word (codes "drop") then 2
    else 1) (two_fields rest)

-- of a command: its field; or else the word, if no command goes on after it
abbrev pub command_place : (keyword rest : List ℕ) → ℕ
command_place keyword rest =
    if bytes_eq keyword (codes "maildrop") then maildrop_place rest
    else if bytes_eq keyword (codes "list") then 1
    else if bytes_eq keyword (codes "end") then 1
    else if bytes_eq keyword (codes "explain") then explain_place rest
    else 0

-- of a line without a TEXT
abbrev pub number_place : (keyword rest : List ℕ) → ℕ
number_place keyword rest =
    if bytes_eq keyword (codes "took") then number_first rest
    else if bytes_eq keyword (codes "drain") then 1
    else if bytes_eq keyword (codes "gone") then 1
    else if bytes_eq keyword (codes "tick") then 1
    else if bytes_eq keyword (codes "restart") then 1
    else command_place keyword rest

-- by its keyword and what stands after that
abbrev pub text_place : (keyword rest : List ℕ) → ℕ
text_place keyword rest =
    if bytes_eq keyword (codes "bytes") then number_first rest
    else if bytes_eq keyword (codes "deposit") then deposit_place rest
    else if bytes_eq keyword (codes "clerk") then clerk_place rest
    else if bytes_eq keyword (codes "policy") then 1
    else number_place keyword rest

-- a word alone that is no event lacks the next one
abbrev pub place_by : List ℕ × Option (List ℕ) → ℕ
place_by (keyword, None) = 1
place_by (keyword, Some rest) = text_place keyword rest

-- of a line without its LF
abbrev pub place_of : List ℕ → ℕ
place_of text = place_by (cut_field text)

-- what a line of the code asks for, or the place of its word at fault
abbrev pub read_seen : Result Line ℕ → Result ScriptLine ℕ
read_seen (Ok read) = Ok (line_seen read)
read_seen (Err at) = Err at
