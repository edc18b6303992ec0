-- What is printed if a writer refuses in the middle.
use Rattle.std.specs.Prelude.{◌≡◌, ℕ, List, ◌++◌, Option}
use Rattle.std.specs.Io.KnownBytes.{Appends}

-- a beginning of the text is printed, or all of it
abbrev pub PrintsPart : (before after : Option (List ℕ)) → (text : List ℕ) → Type 0
PrintsPart before after text =
    (told : List ℕ) × (rest : List ℕ) × (text ≡ told ++ rest) × Appends before after told
