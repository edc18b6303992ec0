-- The line of a request, as far as a log may show it: its method, and what its target names. A
-- body isn't part of it, and so no password or secret.
use Rattle.std.specs.Prelude.{◌≡◌, ◌⊎◌, ℕ, List, ◌++◌, codes, Option, Some, None, option_map}
use Rattle.std.specs.Prelude.{option_and_then, if◌then◌else◌}
use Rattle.std.specs.Fmt.{decimal}
use Rattle.std.specs.Str.{bytes_eq}
use Rattle.httparse.specs.Grammar.{RequestHead}
use Rattle.policy.specs.declared.rule.Action.{Action}
use Rattle.policy.specs.declared.rule.Action.TheVariants.{Open, Read, Remove}
use Rattle.office.specs.Answers as office
use Rattle.office.specs.Answers.{AdminCommand}
use Rattle.adminhttp.specs.Lines.{head_at}
use Rattle.adminhttp.specs.Head.{IsHead, IsNoHead, head_text}
use Rattle.adminhttp.specs.Targets.{target_of}
use Rattle.adminhttp.specs.declared.target.Target.{Target}
use Rattle.adminhttp.specs.declared.target.Target.TheVariants.{Maildrops, Maildrop, Clerks, Clerk}
use Rattle.adminhttp.specs.declared.target.Target.TheVariants.{Policy, Groups, Sessions, Session, Explain}
use Rattle.adminhttp.specs.declared.request_line.Method.{Method}
use Rattle.adminhttp.specs.declared.request_line.Method.TheVariants.{Get, Put, Delete}
use Rattle.adminhttp.specs.declared.request_line.RequestLine.{RequestLine}

-- ---- its texts

-- a method
abbrev pub method_text : Method → List ℕ
method_text Get = codes "GET"
method_text Put = codes "PUT"
method_text Delete = codes "DELETE"

-- an action
abbrev pub action_text : Action → List ℕ
action_text Open = codes "open"
action_text Read = codes "read"
action_text Remove = codes "remove"

-- the path of what a target names
abbrev pub path_of : Target → List ℕ
path_of Maildrops = codes "/maildrops"
path_of (Maildrop maildrop) = codes "/maildrops/" ++ maildrop
path_of Clerks = codes "/clerks"
path_of (Clerk clerk) = codes "/clerks/" ++ clerk
path_of Policy = codes "/policy"
path_of Groups = codes "/groups"
path_of Sessions = codes "/sessions"
path_of (Session number) = codes "/sessions/" ++ decimal number
path_of (Explain clerk maildrop class action) =
    codes "/explain/" ++ clerk ++ codes "/" ++ maildrop ++ codes "/" ++ class ++ codes "/"
    ++ action_text action

-- ---- of a command

-- the line of this method and target
abbrev pub by : Method → Target → RequestLine
by method target = record { method = method; target = target }

-- the line that asks for a command
abbrev pub line_of : AdminCommand → RequestLine
line_of office.ListMaildrops = by Get Maildrops
line_of (office.ShowMaildrop maildrop) = by Get (Maildrop maildrop)
line_of (office.AddMaildrop maildrop) = by Put (Maildrop maildrop)
line_of (office.DropMaildrop maildrop) = by Delete (Maildrop maildrop)
line_of office.ListClerks = by Get Clerks
line_of (office.ShowClerk clerk) = by Get (Clerk clerk)
line_of (office.PutClerk clerk credential) = by Put (Clerk clerk)
line_of (office.DropClerk clerk) = by Delete (Clerk clerk)
line_of office.ShowPolicy = by Get Policy
line_of (office.SetPolicy policy) = by Put Policy
line_of office.ListGroups = by Get Groups
line_of office.ListSessions = by Get Sessions
line_of (office.EndSession number) = by Delete (Session number)
line_of (office.Explain clerk maildrop class action) = by Get (Explain clerk maildrop class action)

-- ---- of octets

-- the method that is spelled so; None if no route has it
abbrev pub method_of : List ℕ → Option Method
method_of text =
    if bytes_eq text (codes "GET") then Some Get
    else if bytes_eq text (codes "PUT") then Some Put
    else if bytes_eq text (codes "DELETE") then Some Delete else None

-- the line of a head; None if its target names nothing, or no route has its method
abbrev pub line_in : (method target : List ℕ) → Option RequestLine
line_in method target =
    option_and_then (λ named. option_map (λ asked. by asked named) (method_of method))
    (target_of target)

-- octets whose head, at this place, has this line; None if they have no head
abbrev pub IsLineAt : List ℕ → (place : Option (ℕ × ℕ)) → Option RequestLine → Type 0
IsLineAt b None line = line ≡ None
IsLineAt b (Some place) line =
    ((h : RequestHead) × IsHead (head_text b place) h × (line ≡ line_in h.method h.target))
    ⊎ (IsNoHead (head_text b place) × (line ≡ None))

-- the octets of a request have this line
abbrev pub IsLine : List ℕ → Option RequestLine → Type 0
IsLine b line = IsLineAt b (head_at b) line
