-- What is said to each act, by the history before it, its front: replies, and answers to deposits
-- and commands.
use Rattle.std.specs.Prelude.{ℕ, nat_lt, List, [], ◌∷◌, length, map, Option, Some, None}
use Rattle.std.specs.Prelude.{if◌then◌else◌, is_some}
use Rattle.std.specs.List.{filter_map}
use Rattle.mailtext.specs.Text.{kept_form}
use Rattle.creds.specs.declared.login_name.LoginName.{LoginName}
use Rattle.creds.specs.declared.uid.Uid.{Uid}
use Rattle.creds.specs.Names.{by_name}
use Rattle.creds.specs.declared.credential.Credential.{Credential}
use Rattle.creds.specs.declared.credential.Credential.TheVariants as kept
use Rattle.popline.specs.Replies.{Greeting}
use Rattle.policy.specs.Policy.{decide}
use Rattle.vault.specs.Records.{Records, uid_of, octets_of, most_octets}
use Rattle.vault.specs.Changes.{DepositAnswer, Accepted, KnownAs, deposit_answer, PutAnswer}
use Rattle.vault.specs.Changes.{put_maildrop_answer, put_clerk_answer, DropAnswer, drop_answer}
use Rattle.vault.specs.Changes.{total_in}
use Rattle.vault.specs.Changes as changes
use Rattle.vault.specs.Clerks.{clerk_kinds}
use Rattle.office.specs.Answers.{AdminCommand, ListMaildrops, ShowMaildrop, AddMaildrop}
use Rattle.office.specs.Answers.{DropMaildrop, ListClerks, ShowClerk, PutClerk, DropClerk}
use Rattle.office.specs.Answers.{ShowPolicy, SetPolicy, ListGroups, ListSessions, EndSession}
use Rattle.office.specs.Answers.{Explain, Answer}
use Rattle.office.specs.History.{Act, Open, Line, Deposit, Administer, Tag, Done, Said, Silence}
use Rattle.office.specs.History.{Says, Answers, Entry, in_force, clerks, credential, maildrops}
use Rattle.office.specs.History.{exists, deposits}
use Rattle.office.specs.Connections.{setting, heard}
use Rattle.office.specs.Sessions.{live, in_session, holder, present}
use Rattle.office.specs.Replying.{said_to_line, is_empty}
use Rattle.vault.specs.declared.record.Message as store
use Rattle.office.specs.Answers as answer

-- ---- deposits

-- a vault's answer to a deposit
abbrev pub answer_of_deposit : DepositAnswer → Answer
answer_of_deposit (Accepted uid) = answer.New uid
answer_of_deposit (KnownAs uid) = answer.Known uid
answer_of_deposit changes.NoMaildrop = answer.NoSuchMaildrop
answer_of_deposit changes.Conflict = answer.Conflict
answer_of_deposit changes.Full = answer.Full

-- the answer to a deposit: the text is empty, it is too large, or what the store answers
abbrev pub deposited : Records → List Entry → (maildrop class id text : List ℕ) → Answer
deposited B G d class id text =
    if is_empty text then answer.EmptyText
    else if nat_lt most_octets (length (kept_form text)) then answer.TextTooLarge
    else answer_of_deposit (deposit_answer (exists B G d) (length (present B G d))
    (deposits B G d) class id (kept_form text))

-- ---- administration

-- a message's unique-id and octets
abbrev pub row_of : store.Message → Uid × ℕ
row_of m = (uid_of m, octets_of m)

-- a connection with its session, if it has one
abbrev pub session_row : ℕ → Option LoginName → Option (ℕ × LoginName)
session_row c None = None
session_row c (Some name) = Some (c, name)

-- the sessions, by number
abbrev pub sessions : List Entry → List (ℕ × LoginName)
sessions G = filter_map (λ c. session_row c (in_session G c)) (heard G)

-- which kind of credential a clerk has
abbrev pub kind_of : Option Credential → Answer
kind_of None = answer.NoSuchClerk
kind_of (Some (kept.Apop secret)) = answer.ByApopSecret
kind_of (Some (kept.Pass digest)) = answer.ByPassword

-- a vault's answer to a name that was put
abbrev pub answer_of_put : (there_already : Answer) → PutAnswer → Answer
answer_of_put there_already changes.WasNew = answer.Added
answer_of_put there_already changes.WasThere = there_already
answer_of_put there_already changes.NoRoom = answer.Full

-- a vault's answer to a maildrop that was dropped
abbrev pub answer_of_drop : DropAnswer → Answer
answer_of_drop changes.Gone = answer.Dropped
answer_of_drop changes.NotThere = answer.NoSuchMaildrop
answer_of_drop changes.NotEmpty = answer.NotEmpty

-- the answer to a command after a front
abbrev pub administered : Records → List Entry → AdminCommand → Answer
administered B G ListMaildrops =
    answer.Maildrops (map (λ d. total_in d (present B G d)) (by_name (maildrops B G)))
administered B G (ShowMaildrop d) =
    if exists B G d then answer.Messages (map row_of (present B G d)) else answer.NoSuchMaildrop
administered B G (AddMaildrop d) =
    answer_of_put answer.WasThere (put_maildrop_answer d (maildrops B G))
administered B G (DropMaildrop d) =
    if is_some (holder G d) then answer.MaildropInUse
    else answer_of_drop (drop_answer (exists B G d) (length (present B G d)))
administered B G ListClerks = answer.Clerks (clerk_kinds (clerks B G))
administered B G (ShowClerk name) = kind_of (credential B G name)
administered B G (PutClerk name given) =
    answer_of_put answer.Replaced (put_clerk_answer name (clerks B G))
administered B G (DropClerk name) =
    if is_some (credential B G name) then answer.Dropped else answer.NoSuchClerk
administered B G ShowPolicy = answer.PolicyIs (in_force B G)
administered B G (SetPolicy policy) = answer.RuleCount (length policy.rules)
administered B G ListGroups = answer.GroupsOf (in_force B G)
administered B G ListSessions = answer.Sessions (sessions G)
administered B G (EndSession c) = if live G c then answer.Ended else answer.NoSuchSession
administered B G (Explain clerk d class action) =
    answer.Explained (decide (in_force B G) clerk d class action)

-- ---- a history

-- the answer, if the act is Done; else that it failed or met want of memory
abbrev pub answers_if_done : Tag → Answer → Said
answers_if_done Done answer = Answers answer
answers_if_done _ answer = Silence

-- what is said to an act after a front
abbrev pub said_to : Records → List Entry → Act → Tag → Said
said_to B G (Open c) t = Says (Greeting c (setting G).0 (setting G).1)
said_to B G (Line c x) t = said_to_line B G c x t
said_to B G (Deposit d class id text) t = answers_if_done t (deposited B G d class id text)
said_to B G (Administer command) t = answers_if_done t (administered B G command)
said_to B G _ t = Silence

-- the acts, each with what was said to it
abbrev pub told : Records → List (Act × Tag) → List Entry
told B [] = []
told B ((a, t) ∷ H) = record { act = a; tag = t; said = said_to B (told B H) a t } ∷ told B H
