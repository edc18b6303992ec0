-- The files that an export puts into a folder: a maildrop's messages, the oldest first.
use Rattle.std.specs.Prelude.{◌≡◌, ◌≤◌, ℕ, ⊤, true, List, [], ◌∷◌, ◌++◌, length, map, take, Option}
use Rattle.std.specs.Prelude.{None, Some, Result, OnErr, codes}
use Rattle.std.specs.Fmt.{decimal}
use Rattle.std.specs.List.{flat_map}
use Rattle.notes.specs.declared.Notes.{Notes}
use Rattle.creds.specs.Uid.{uid_text}
use Rattle.vault.specs.declared.answer.Head.{Head}
use Rattle.vault.specs.declared.record.Keyed.{Keyed}
use Rattle.vault.specs.declared.record.Receipt.{Receipt}
use Rattle.vault.specs.Calls.{text_under, has_grown}
use Rattle.vault.specs.Changes.{Contents}
use Rattle.converse.specs.Texts.{intact_in, differing_in, differs_line, head_line}

-- a file: its name and its octets
pub record File : Type 0 where
  pub name : List ℕ
  pub octets : List ℕ

-- a file, as a folder notes it: its name and its octets
abbrev pub noted_file : Notes ℕ × Notes ℕ → File
noted_file n = record { name = n.0.items; octets = n.1.items }

-- the name of a message's file: its unique-id, as UIDL gives it, and `.eml`
abbrev pub file_name : (class : List ℕ) → (k : ℕ) → List ℕ
file_name class k = uid_text (record { class = class; k = k }) ++ codes ".eml"

-- a message as a file: its text in the kept form, each line with its CRLF, as RETR sends it before dots are added
abbrev pub file_of : Keyed → File
file_of x = record { name = file_name x.message.class x.message.k; octets = x.message.text }

-- a maildrop's messages that have the texts of their deposits, as files, in order of arrival
abbrev pub files_of : (against : Option (List Receipt)) → (maildrop : List ℕ) → Contents → List File
files_of rs d c = map file_of (intact_in rs d c)

-- a folder, if it tells its files, took these after those that it had taken
abbrev pub Takes : (before after : Option (List File)) → List File → Type 0
Takes None after files = ⊤
Takes (Some had) None files = ⊥
Takes (Some had) (Some has) files = has ≡ had ++ files

-- it took the first of these files, in their order, and none of the others
abbrev pub TakesFirst : (before after : Option (List File)) → List File → Type 0
TakesFirst before after files = (n : ℕ) × Takes before after (take n files)

-- of a folder's call: the count of failed calls never falls, and an error is counted
abbrev pub CountsRefusal : {A E : Type 0} → (before now : ℕ) → Result A E → Type 0
CountsRefusal before now answer = (before ≤ now) × OnErr answer (has_grown before now ≡ true)

-- what is printed of so many files
abbrev pub export_line : ℕ → List ℕ
export_line n = codes "ok, " ++ decimal n ++ codes " messages\n"

-- or, if messages were left out, a line for each of them
abbrev pub export_text : (count : ℕ) → (differing : List Keyed) → List ℕ
export_text n [] = export_line n
export_text n (x ∷ xs) = flat_map differs_line (x ∷ xs)

-- of a maildrop
abbrev pub report_text : (against : Option (List Receipt)) → (maildrop : List ℕ) → Contents → List ℕ
report_text rs d c = export_text (length (files_of rs d c)) (differing_in rs d c)

-- ---- message by message

-- what is printed of so many messages and of the heads of those that were left out
abbrev pub told_of : (maildrop : List ℕ) → (count : ℕ) → (differing : List Head) → List ℕ
told_of d n [] = export_line n
told_of d n (h ∷ hs) = flat_map (head_line d) (h ∷ hs)

-- octets are the front of a text
abbrev pub IsFront : (octets text : List ℕ) → Type 0
IsFront octets text = octets ≡ take (length octets) text

-- the file of a message by its head
abbrev pub file_under : Contents → Head → File
file_under c h = record { name = file_name h.class h.k; octets = text_under h.key c.messages }

-- the head tells how many octets lie under its key
abbrev pub IsMeasured : Contents → Head → Type 0
IsMeasured c h = h.octets ≡ length (text_under h.key c.messages)
