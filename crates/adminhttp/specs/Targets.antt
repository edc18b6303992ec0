-- What the target of a request names: the routes, by the parts between the slashes.
use Rattle.std.specs.Prelude.{ℕ, ◌+◌, ◌==◌, nat_eq, Bool, List, [], ◌∷◌, codes, length, drop, Option, Some, None, option_map, if◌then◌else◌}
use Rattle.std.specs.List.{before_first, position, starts_with}
use Rattle.std.specs.Str.{bytes_eq}
use Rattle.creds.specs.Names.{name_of}
use Rattle.office.specs.Numbers.{number_of}
use Rattle.policy.specs.PolicyText.{action_of}
use Rattle.adminhttp.specs.declared.route.Route.{Route}
use Rattle.adminhttp.specs.declared.route.Route.TheVariants as route
use Rattle.adminhttp.specs.declared.target.Target.{Target}
use Rattle.adminhttp.specs.declared.target.Target.TheVariants.{Maildrops, Maildrop, Clerks, Clerk, Policy, Groups, Sessions, Session, Explain}

-- `?` on an `Option`
infixl 10 ◌>>=◌
abbrev pub ◌>>=◌ : {A B : Type 0} → Option A → (A → Option B) → Option B
Some x >>= f = f x
None >>= f = None

-- `/`
abbrev pub is_slash : ℕ → Bool
is_slash b = b == 47

-- the part before the first slash, and what stands after that slash
abbrev pub first_part : List ℕ → Option (List ℕ × List ℕ)
first_part text = option_map (λ at. (before_first is_slash text, drop (at + 1) text)) (position is_slash text)

-- what stands after this beginning of a path
abbrev pub behind : (word : List ℕ) → List ℕ → Option (List ℕ)
behind word path = if starts_with nat_eq path word then Some (drop (length word) path) else None

-- the path is this word alone
abbrev pub alone : (word : List ℕ) → Target → List ℕ → Option Target
alone word target path = if bytes_eq path word then Some target else None

-- `CLERK/MAILDROP/CLASS/ACTION`
abbrev pub explained : List ℕ → Option Target
explained text = do
  first ← first_part text
  second ← first_part first.1
  third ← first_part second.1
  clerk ← name_of first.0
  maildrop ← name_of second.0
  class ← name_of third.0
  action ← action_of third.1
  Some (Explain clerk maildrop class action)

-- what a path of this route names
abbrev pub target_on : Route → List ℕ → Option Target
target_on route.Maildrops path = alone (codes "/maildrops") Maildrops path
target_on route.Maildrop path = behind (codes "/maildrops/") path >>= λ part. option_map Maildrop (name_of part)
target_on route.Clerks path = alone (codes "/clerks") Clerks path
target_on route.Clerk path = behind (codes "/clerks/") path >>= λ part. option_map Clerk (name_of part)
target_on route.Policy path = alone (codes "/policy") Policy path
target_on route.Groups path = alone (codes "/groups") Groups path
target_on route.Sessions path = alone (codes "/sessions") Sessions path
target_on route.Session path = behind (codes "/sessions/") path >>= λ part. option_map Session (number_of part)
target_on route.Explain path = behind (codes "/explain/") path >>= explained

-- the same, if there is a route
abbrev pub found_on : Option Route → List ℕ → Option Target
found_on None path = None
found_on (Some r) path = target_on r path

-- the first of two that is there
abbrev pub first_of : Option Target → Option Target → Option Target
first_of (Some target) other = Some target
first_of None other = other

-- what a path names, by the first of these routes that is its own
abbrev pub target_among : List Route → List ℕ → Option Target
target_among [] path = None
target_among (r ∷ more) path = first_of (target_on r path) (target_among more path)

-- the routes
abbrev pub routes : List Route
routes =
    route.Maildrops ∷ route.Maildrop ∷ route.Clerks ∷ route.Clerk ∷ route.Policy ∷ route.Groups
    ∷ route.Sessions ∷ route.Session ∷ route.Explain ∷ []

-- what a path names; None if it is of no route, or one of its parts hasn't its form
unfoldable pub target_of : List ℕ → Option Target
target_of path = target_among routes path
