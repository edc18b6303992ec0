-- Laws over every request.
use Rattle.std.specs.Prelude.{◌≡◌, ℕ, List, Some, Ok}
use Rattle.office.specs.Answers.{AdminCommand}
use Rattle.office.specs.declared.limits.AdminAccess.{AdminAccess}
use Rattle.adminhttp.specs.Sites.{Site}
use Rattle.adminhttp.specs.Request.{Asked, IsRequest}
use Rattle.adminhttp.specs.RequestLines.{line_of, IsLine}

-- the same octets come to one thing at most
abbrev pub HasOneMeaning : Type 0
HasOneMeaning =
    (site : Site) (access : AdminAccess) (b : List ℕ) (first second : Asked)
    → IsRequest site access b first → IsRequest site access b second → first ≡ second

-- a request that gives a command has that command's line
abbrev pub CommandHasItsLine : Type 0
CommandHasItsLine =
    (site : Site) (access : AdminAccess) (b : List ℕ) (command : AdminCommand)
    → IsRequest site access b (Ok command)
    → IsLine b (Some (line_of command))

-- any octets come to something
abbrev pub HasMeaning : Type 0
HasMeaning =
    (site : Site) (access : AdminAccess) (b : List ℕ)
    → ((asked : Asked) → ¬ IsRequest site access b asked) → ⊥
