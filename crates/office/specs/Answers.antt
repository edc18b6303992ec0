-- Administration commands, the answers to them and to deposits, and the answers' bodies.
use Rattle.std.specs.Prelude.{ℕ, List, ◌++◌, Bool, true, false, codes, length}
use Rattle.std.specs.List.{flat_map}
use Rattle.std.specs.Fmt.{decimal}
use Rattle.creds.specs.declared.login_name.LoginName.{LoginName}
use Rattle.creds.specs.declared.uid.Uid.{Uid}
use Rattle.creds.specs.Uid.{uid_text}
use Rattle.creds.specs.declared.credential.Credential.{Credential}
use Rattle.vault.specs.declared.answer.ClerkKind.{ClerkKind}
use Rattle.vault.specs.declared.answer.CredentialKind.{CredentialKind}
use Rattle.vault.specs.declared.answer.CredentialKind.TheVariants.{Apop, Pass}
use Rattle.vault.specs.declared.answer.Total.{Total}
use Rattle.policy.specs.Policy.{Group, Policy}
use Rattle.policy.specs.declared.rule.Action.{Action}
use Rattle.policy.specs.declared.decide.Decision.{Decision}
use Rattle.policy.specs.PolicyText.{policy_text}

-- what an administrator asks for
pub data AdminCommand : Type 0 where
  ListMaildrops : AdminCommand
  ShowMaildrop : (maildrop : List ℕ) → AdminCommand
  AddMaildrop : (maildrop : List ℕ) → AdminCommand
  DropMaildrop : (maildrop : List ℕ) → AdminCommand
  ListClerks : AdminCommand
  ShowClerk : (clerk : List ℕ) → AdminCommand
  PutClerk : (clerk : List ℕ) → Credential → AdminCommand
  DropClerk : (clerk : List ℕ) → AdminCommand
  ShowPolicy : AdminCommand
  SetPolicy : Policy → AdminCommand
  ListGroups : AdminCommand
  ListSessions : AdminCommand
  EndSession : (number : ℕ) → AdminCommand
  Explain : (clerk maildrop class : List ℕ) → Action → AdminCommand

-- the answers to deposits and commands
pub data Answer : Type 0 where
  New : Uid → Answer
  Known : Uid → Answer
  EmptyText : Answer
  TextTooLarge : Answer
  NoSuchMaildrop : Answer
  Conflict : Answer
  Full : Answer
  Maildrops : List Total → Answer
  Messages : List (Uid × ℕ) → Answer
  Added : Answer
  WasThere : Answer
  Dropped : Answer
  MaildropInUse : Answer
  NotEmpty : Answer
  Clerks : List ClerkKind → Answer
  ByApopSecret : Answer
  ByPassword : Answer
  NoSuchClerk : Answer
  Replaced : Answer
  PolicyIs : Policy → Answer
  RuleCount : ℕ → Answer
  GroupsOf : Policy → Answer
  Sessions : List (ℕ × LoginName) → Answer
  Ended : Answer
  NoSuchSession : Answer
  Explained : Decision → Answer

-- a line of a body
abbrev pub body_line : List ℕ → List ℕ
body_line text = text ++ codes "\n"

-- a line for each row
abbrev pub body_lines : {A : Type 0} → (A → List ℕ) → List A → List ℕ
body_lines line rows = flat_map (λ row. body_line (line row)) rows

-- a maildrop's name, its messages and their octets
abbrev pub total_text : Total → List ℕ
total_text t = t.maildrop ++ codes " " ++ decimal t.messages ++ codes " " ++ decimal t.octets

-- the word for a kind of credential
abbrev pub kind_text : CredentialKind → List ℕ
kind_text Apop = codes "apop"
kind_text Pass = codes "pass"

-- a clerk's name and the kind of the credential
abbrev pub clerk_text : ClerkKind → List ℕ
clerk_text row = row.clerk ++ codes " " ++ kind_text row.kind

-- a message's unique-id and its octets
abbrev pub message_text : Uid × ℕ → List ℕ
message_text row = uid_text row.0 ++ codes " " ++ decimal row.1

-- a connection's number, its clerk and its maildrop
abbrev pub session_text : ℕ × LoginName → List ℕ
session_text row = decimal row.0 ++ codes " " ++ row.1.clerk ++ codes " " ++ row.1.maildrop

-- a group's name and how many members it has
abbrev pub group_line : Group → List ℕ
group_line g = g.name ++ codes " " ++ decimal (length g.members)

-- allow or deny, and by which rule
abbrev pub decision_text : Bool → List ℕ → List ℕ
decision_text true rule = codes "allow by rule " ++ rule
decision_text false rule = codes "deny by rule " ++ rule

-- the body of an answer: the written policy, or lines that each end with LF
abbrev pub body_of : Answer → List ℕ
body_of (New uid) = body_line (codes "new " ++ uid_text uid)
body_of (Known uid) = body_line (codes "known " ++ uid_text uid)
body_of EmptyText = body_line (codes "empty text")
body_of TextTooLarge = body_line (codes "too large")
body_of NoSuchMaildrop = body_line (codes "no such maildrop")
body_of Conflict = body_line (codes "conflict")
body_of Full = body_line (codes "full")
body_of (Maildrops rows) = body_lines total_text rows
body_of (Messages rows) = body_lines message_text rows
body_of Added = body_line (codes "added")
body_of WasThere = body_line (codes "was there")
body_of Dropped = body_line (codes "dropped")
body_of MaildropInUse = body_line (codes "in use")
body_of NotEmpty = body_line (codes "not empty")
body_of (Clerks rows) = body_lines clerk_text rows
body_of ByApopSecret = body_line (codes "apop")
body_of ByPassword = body_line (codes "pass")
body_of NoSuchClerk = body_line (codes "no such clerk")
body_of Replaced = body_line (codes "replaced")
body_of (PolicyIs policy) = policy_text policy
body_of (RuleCount n) = body_line (decimal n ++ codes " rules")
body_of (GroupsOf policy) = body_lines group_line policy.groups
body_of (Sessions rows) = body_lines session_text rows
body_of Ended = body_line (codes "ended")
body_of NoSuchSession = body_line (codes "no such session")
body_of (Explained decision) = body_line (decision_text decision.allowed decision.rule)
