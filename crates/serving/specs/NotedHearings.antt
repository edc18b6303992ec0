-- What the notes of a listener say.
use Rattle.std.specs.Prelude.{ℕ, List, map, flat_map}
use Rattle.notes.specs.declared.Notes.{Notes}
use Rattle.office.specs.declared.account.Account.{Account}
use Rattle.serving.specs.Hearing.{Hearing}

pub record NotedHearings : Type 0 where
  pub heard : List Hearing

-- what was heard of a connection
abbrev pub heard_once : ℕ × Notes Account → List Hearing
heard_once n = map (λ account. (n.0, account)) n.1.items

-- what was noted, in its order
abbrev pub hearings_of : List (ℕ × Notes Account) → List Hearing
hearings_of noted = flat_map heard_once noted
