-- The names of spool files.
use Rattle.std.specs.Prelude.{◌≡◌, ℕ, Bool, true, ◌+◌, ◌==◌, List, ◌++◌, take, drop, position, Option, Some, None, option_and_then, if◌then◌else◌, codes}
use Rattle.std.specs.Str.{bytes_eq}
use Rattle.creds.specs.Names.{is_name, is_deposit_id, name_of, deposit_id_of}
use Rattle.serving.specs.declared.file_name.FileName.{FileName}

-- the ? of the definitions
infixl 10 ◌>>=◌
-- a reading whose first part is missing has none of the rest
abbrev pub ◌>>=◌ : {A B : Type 0} → Option A → (A → Option B) → Option B
o >>= f = option_and_then f o

-- a dot
abbrev pub is_dot : ℕ → Bool
is_dot b = b == 46

-- `id.eml`, after the maildrop and the class
unfoldable pub with_id : (maildrop class : List ℕ) → List ℕ → Option FileName
with_id maildrop class text = do
  dot ← position is_dot text
  id ← deposit_id_of (take dot text)
  if bytes_eq (drop (dot + 1) text) (codes "eml") then Some (record { maildrop = maildrop; class = class; id = id }) else None

-- `class.id.eml`, after the maildrop
unfoldable pub with_class : (maildrop : List ℕ) → List ℕ → Option FileName
with_class maildrop text = do
  dot ← position is_dot text
  class ← name_of (take dot text)
  with_id maildrop class (drop (dot + 1) text)

-- `maildrop.class.id.eml`
unfoldable pub file_name_of : List ℕ → Option FileName
file_name_of text = do
  dot ← position is_dot text
  maildrop ← name_of (take dot text)
  with_class maildrop (drop (dot + 1) text)

-- the text of a name
abbrev pub text_of : FileName → List ℕ
text_of n = n.maildrop ++ (codes "." ++ (n.class ++ (codes "." ++ (n.id ++ codes ".eml"))))

-- the parts of a name have their forms, as those of every `FileName` have
abbrev pub HasForm : FileName → Type 0
HasForm n = (is_name n.maildrop ≡ true) × (is_name n.class ≡ true) × (is_deposit_id n.id ≡ true)

-- each name is what is read of its text
abbrev pub NamesReadBack : Type 0
NamesReadBack = (n : FileName) → HasForm n → file_name_of (text_of n) ≡ Some n

-- each text of which a name is read is that name's, whose parts have their forms
abbrev pub NamesHaveOneText : Type 0
NamesHaveOneText = (text : List ℕ) (n : FileName) → file_name_of text ≡ Some n → HasForm n × (text_of n ≡ text)
