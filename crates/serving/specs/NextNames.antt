-- Which of a spool's names is the next one.
use Rattle.std.specs.Prelude.{◌≡◌, ◌≤◌, ℕ, ◌+◌, min, nat_le, Bool, true, false, not, ◌&&◌, ◌||◌, List, [], ◌∷◌, length, Option, Some, None, option_and_then, option_map}
use Rattle.std.specs.Prelude.{is_some, is_none, if◌then◌else◌, string_bytes}
use Rattle.std.specs.List.{All}
use Rattle.creds.specs.Names.{comes_before}
use Rattle.serving.specs.FileNames.{file_name_of, text_of}
use Rattle.serving.specs.declared.file_name.FileName.{FileName}
use Rattle.serving.specs.declared.next_name.NextName.{NextName}
use Rattle.serving.specs.declared.next_name.Look.{Look}

-- a text is of the form of a spool file's name
abbrev pub is_file : List ℕ → Bool
is_file name = is_some (file_name_of name)

-- it is, and comes after the last one
abbrev pub is_behind : (last : List ℕ) → List ℕ → Bool
is_behind last name = is_file name && comes_before last name

-- the text of the name that was tried last; the empty text, which comes before every name, if none was
abbrev pub last_text : Option FileName → List ℕ
last_text None = []
last_text (Some n) = text_of n

-- a name comes before the least one so far
abbrev pub is_less : List ℕ → Option (List ℕ) → Bool
is_less name None = true
is_less name (Some least) = comes_before name least

-- the least one so far, after a name that counts or doesn't
abbrev pub least_after : (counts : Bool) → (name : List ℕ) → Option (List ℕ) → Option (List ℕ)
least_after counts name before = if counts && is_less name before then Some name else before

-- the least of the names that pass a test
abbrev pub least_of : (List ℕ → Bool) → List (List ℕ) → Option (List ℕ)
least_of p [] = None
least_of p (name ∷ names) = least_after (p name) name (least_of p names)

-- the first of two names that is there
abbrev pub first_of : (front back : Option (List ℕ)) → Option (List ℕ)
first_of None back = back
first_of (Some name) back = Some name

-- the next name: the least one after the last, else the least of all
abbrev pub next_of : (last : Option FileName) → List (List ℕ) → Option FileName
next_of last names = option_and_then file_name_of (first_of (least_of (is_behind (last_text last)) names) (least_of is_file names))

-- going round from a name to the next one, a third is between them
abbrev pub is_between : (from to : List ℕ) → List ℕ → Bool
is_between from to name =
    if comes_before from to then comes_before from name && comes_before name to else comes_before from name || comes_before name to

-- no name is passed over, going round from the last one to the next
abbrev pub NoneIsPassedOver : Type 0
NoneIsPassedOver = (last : Option FileName) (names : List (List ℕ)) (next : FileName) → next_of last names ≡ Some next
    → All (λ name. is_file name ≡ true → is_between (last_text last) (text_of next) name ≡ false) names

-- these names came by since the last one was set, the newest first; their order doesn't matter
pub record HasSeen (last : Option FileName) (names : List (List ℕ)) (next : NextName) : Type 0 where
  pub text : string_bytes next.last ≡ last_text last
  pub least : option_map string_bytes next.least ≡ least_of is_file names
  pub behind : option_map string_bytes next.behind ≡ least_of (is_behind (last_text last)) names

-- ---- files that were left

-- after so many looks that tried none of them, one is tried before new ones
abbrev pub most_looks : ℕ
most_looks = 1000

-- a file that was left is tried after a look: they don't rest, one is there, and no new one is, or so many looks tried none of them
abbrev pub tries_left : (looks : ℕ) → Look → Bool
tries_left looks look = not look.rests && is_some look.left && (is_none look.new || nat_le most_looks looks)

-- which file is tried
abbrev pub tried_of : (looks : ℕ) → Look → Option FileName
tried_of looks look = if tries_left looks look then look.left else look.new

-- how many looks tried none of them then, as far as that matters
abbrev pub looks_after : (looks : ℕ) → Look → ℕ
looks_after looks look = if tries_left looks look then 0 else min (looks + 1) most_looks

-- one of them could be tried
abbrev pub CouldTryLeft : Look → Type 0
CouldTryLeft look = (look.rests ≡ false) × (is_some look.left ≡ true)

-- looks one after the other try none of them
abbrev pub try_none : (looks : ℕ) → List Look → Bool
try_none looks [] = true
try_none looks (look ∷ more) = not (tries_left looks look) && try_none (looks_after looks look) more

-- if one could be tried at each, they are no more than 1,000
abbrev pub LeftFilesAreTried : Type 0
LeftFilesAreTried = (looks : ℕ) (more : List Look) → All CouldTryLeft more → try_none looks more ≡ true → length more ≤ most_looks
