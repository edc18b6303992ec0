-- The command that an HTTP request gives the administration, or why it gives none: the first cause
-- that holds.
use Rattle.std.specs.Prelude.{◌≡◌, ◌⊎◌, ℕ, nat_le, List, codes, length, map, Option, Some, None, Result, Ok, Err, if◌then◌else◌}
use Rattle.std.specs.Str.{bytes_eq}
use Rattle.httparse.specs.Grammar.{RequestHead}
use Rattle.httparse.specs.Spans.{name_and_value}
use Rattle.office.specs.Answers.{AdminCommand, ListMaildrops, ShowMaildrop, AddMaildrop, DropMaildrop, ListClerks, ShowClerk, PutClerk, DropClerk, ShowPolicy, SetPolicy, ListGroups, ListSessions, EndSession, Explain}
use Rattle.office.specs.Seen.{command_seen}
use Rattle.office.specs.declared.limits.AdminAccess.{AdminAccess}
use Rattle.adminhttp.specs.Lines.{head_at, most_in_head}
use Rattle.adminhttp.specs.Head.{IsHead, IsNoHead, head_text, behind_head}
use Rattle.adminhttp.specs.Targets.{target_of}
use Rattle.adminhttp.specs.Fields.{Header}
use Rattle.adminhttp.specs.Sites.{Site, is_own}
use Rattle.adminhttp.specs.Steps.{◌>>=◌, value_or}
use Rattle.adminhttp.specs.Bodies.{body_of, without_line_end, credential_of, policy_of}
use Rattle.adminhttp.specs.declared.route.Route.{Route}
use Rattle.adminhttp.specs.declared.route.Route.TheVariants as route
use Rattle.adminhttp.specs.declared.target.Target.{Target}
use Rattle.adminhttp.specs.declared.target.Target.TheVariants as target
use Rattle.adminhttp.specs.declared.refusal.Refusal.TheVariants.{BadRequest, ForeignSite}
use Rattle.adminhttp.specs.declared.refusal.Refusal.TheVariants.{NotFound, NotAllowed}
use Rattle.adminhttp.specs.declared.no_command.NoCommand.{NoCommand}
use Rattle.adminhttp.specs.declared.no_command.NoCommand.TheVariants.{More, Bad, BadPolicy}
use Rattle.adminhttp.specs.declared.request.Got.{Got}
use Rattle.adminhttp.specs.declared.request.Got.TheVariants as got

-- what a request gives: a command, or why there is none
abbrev pub Asked : Type 0
Asked = Result AdminCommand NoCommand

-- this command, if the method is GET, which is the route's only one
abbrev pub by_get : Route → (method : List ℕ) → AdminCommand → Asked
by_get r method command = if bytes_eq method (codes "GET") then Ok command else Err (Bad (NotAllowed r))

-- PUT on a clerk
unfoldable pub clerk_put : (clerk : List ℕ) → List Header → (behind : List ℕ) → Asked
clerk_put clerk headers behind = do
  body ← body_of headers behind
  credential ← value_or (credential_of clerk (without_line_end body)) BadRequest
  Ok (PutClerk clerk credential)

-- PUT on the policy
unfoldable pub policy_put : List Header → (behind : List ℕ) → Asked
policy_put headers behind = do
  body ← body_of headers behind
  policy ← policy_of body
  Ok (SetPolicy policy)

-- a maildrop; the body isn't read
unfoldable pub maildrop_asked : (maildrop method : List ℕ) → Asked
maildrop_asked maildrop method =
    if bytes_eq method (codes "GET") then Ok (ShowMaildrop maildrop)
    else if bytes_eq method (codes "PUT") then Ok (AddMaildrop maildrop)
    else if bytes_eq method (codes "DELETE") then Ok (DropMaildrop maildrop)
    else Err (Bad (NotAllowed route.Maildrop))

-- the list of the clerks, which there is only if the administration lists them
unfoldable pub clerks_asked : AdminAccess → (method : List ℕ) → Asked
clerks_asked access method =
    if access.lists_clerks then by_get route.Clerks method ListClerks else Err (Bad NotFound)

-- a clerk
unfoldable pub clerk_asked : (clerk method : List ℕ) → List Header → (behind : List ℕ) → Asked
clerk_asked clerk method headers behind =
    if bytes_eq method (codes "GET") then Ok (ShowClerk clerk)
    else if bytes_eq method (codes "PUT") then clerk_put clerk headers behind
    else if bytes_eq method (codes "DELETE") then Ok (DropClerk clerk)
    else Err (Bad (NotAllowed route.Clerk))

-- the policy
unfoldable pub policy_asked : (method : List ℕ) → List Header → (behind : List ℕ) → Asked
policy_asked method headers behind =
    if bytes_eq method (codes "GET") then Ok ShowPolicy
    else if bytes_eq method (codes "PUT") then policy_put headers behind
    else Err (Bad (NotAllowed route.Policy))

-- a session
unfoldable pub session_asked : (number : ℕ) → (method : List ℕ) → Asked
session_asked number method =
    if bytes_eq method (codes "DELETE") then Ok (EndSession number) else Err (Bad (NotAllowed route.Session))

-- what a method gives on a target: a refusal if the route doesn't have it, then the body's
-- faults
abbrev pub asked_of : AdminAccess → Target → (method : List ℕ) → List Header → (behind : List ℕ)
    → Asked
asked_of access target.Maildrops method headers behind = by_get route.Maildrops method ListMaildrops
asked_of access (target.Maildrop maildrop) method headers behind = maildrop_asked maildrop method
asked_of access target.Clerks method headers behind = clerks_asked access method
asked_of access (target.Clerk clerk) method headers behind = clerk_asked clerk method headers behind
asked_of access target.Policy method headers behind = policy_asked method headers behind
asked_of access target.Groups method headers behind = by_get route.Groups method ListGroups
asked_of access target.Sessions method headers behind = by_get route.Sessions method ListSessions
asked_of access (target.Session number) method headers behind = session_asked number method
asked_of access (target.Explain clerk maildrop class action) method headers behind =
    by_get route.Explain method (Explain clerk maildrop class action)

-- what a head and the octets after it give
unfoldable pub asked_by : AdminAccess → (method target : List ℕ) → List Header → (behind : List ℕ)
    → Asked
asked_by access method target headers behind = do
  found ← value_or (target_of target) NotFound
  asked_of access found method headers behind

-- the same, if the request is the site's own
unfoldable pub asked_of_site : (site : Site) → AdminAccess → (method target : List ℕ)
    → List Header → (behind : List ℕ) → Asked
asked_of_site site access method target headers behind =
    if is_own site headers then asked_by access method target headers behind
    else Err (Bad ForeignSite)

-- a head that hasn't ended: more may come, up to 8,192 octets
abbrev pub unended : List ℕ → NoCommand
unended b = if nat_le (length b) most_in_head then More else Bad BadRequest

-- the text of a head and the octets after it give this
abbrev pub HeadComesTo : (site : Site) → AdminAccess → (text behind : List ℕ) → Asked → Type 0
HeadComesTo site access text behind asked =
    ((h : RequestHead) × IsHead text h
    × (asked ≡ asked_of_site site access h.method h.target (map name_and_value h.fields) behind))
    ⊎ (IsNoHead text × (asked ≡ Err (Bad BadRequest)))

-- octets give this; `place` is their head's, if it has ended
abbrev pub ComesTo : (site : Site) → AdminAccess → List ℕ → (place : Option (ℕ × ℕ)) → Asked → Type 0
ComesTo site access b None asked = asked ≡ Err (unended b)
ComesTo site access b (Some place) asked =
    HeadComesTo site access (head_text b place) (behind_head b place) asked

-- The octets of a request give this to an administration with this access. If it has a site, a
-- request that isn't its own is refused, whatever it asks.
abbrev pub IsRequest : (site : Site) → AdminAccess → List ℕ → Asked → Type 0
IsRequest site access b asked = ComesTo site access b (head_at b) asked

-- what the code returns as a request's meaning; None at want of memory
abbrev pub asked_in : Got → Option Asked
asked_in got.More = Some (Err More)
asked_in (got.Bad refusal) = Some (Err (Bad refusal))
asked_in (got.BadPolicy fault) = Some (Err (BadPolicy fault))
asked_in (got.Command command) = Some (Ok (command_seen command))
asked_in got.NoMemory = None
