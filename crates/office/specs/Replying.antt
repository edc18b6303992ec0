-- The reply to a command line, by the state that it meets (RFC 1939, 3 to 7; RFC 2449, 5 and 8);
-- and which state that is, by the history before the line, its front.
use Rattle.std.specs.Prelude.{ℕ, Bool, true, false, not, ◌&&◌, nat_le, List, [], ◌∷◌, length}
use Rattle.std.specs.Prelude.{Option, Some, None, Result, Ok, Err, if◌then◌else◌, is_some}
use Rattle.mailtext.specs.Text.{lines_of, top_part, stuffed_lines}
use Rattle.creds.specs.declared.login_name.LoginName.{LoginName}
use Rattle.creds.specs.Credential.{Shown, ByApop, ByPass, is_admitted}
use Rattle.popline.specs.Cutting.{Cut, TooLong}
use Rattle.popline.specs.Commands.{Command, Capa, User, Pass, Apop, Quit, Stat, ListAll, ListOne}
use Rattle.popline.specs.Commands.{UidlAll, UidlOne, Top, Retr, Dele, Rset, Noop, command_of}
use Rattle.popline.specs.Commands.{keyword_of}
use Rattle.popline.specs.declared.command.Keyword.{Keyword}
use Rattle.popline.specs.declared.command.LineFault.{LineFault}
use Rattle.popline.specs.declared.command.LineFault.TheVariants.{Syntax, Unknown}
use Rattle.popline.specs.declared.command.Keyword.TheVariants as keyword
use Rattle.popline.specs.Replies.{Reply, LineTooLong, UnknownCommand, WrongState, BadArguments}
use Rattle.popline.specs.Replies.{Capabilities, SendPass, LoginFailed, LoginFailedClosing, DeniedBy}
use Rattle.popline.specs.Replies.{NoSuchMaildrop, InUse, MaildropHas, DropListing, ScanListing}
use Rattle.popline.specs.Replies.{ScanLine, UidListing, UidLine, Message, TopPart, Marked, Okay}
use Rattle.popline.specs.Replies.{NoSuchMessage, AlreadyMarked, Bye, RemovalDenied, RemovalFailed}
use Rattle.popline.specs.Replies.{StoreFailed, timestamp}
use Rattle.policy.specs.Policy.{Policy, decide}
use Rattle.policy.specs.declared.decide.Decision.{Decision}
use Rattle.policy.specs.declared.rule.Action.TheVariants as to
use Rattle.vault.specs.Records.{Records, uid_of, class_of, octets_of, octets_of_all}
use Rattle.session.specs.View.{visible, refer, is_marked, at_number, unmarked, retrieval, may_read}
use Rattle.session.specs.View.{removal, to_remove, denying, sizes_of, uids_of, total_of}
use Rattle.session.specs.declared.removals.Removals.{Removals}
use Rattle.session.specs.declared.removals.Removals.TheVariants.{JudgedAtDele, JudgedAtQuit}
use Rattle.office.specs.History.{Tag, Failed, NoMemory, Said, Silence, Says, Entry, in_force}
use Rattle.office.specs.History.{credential, exists}
use Rattle.office.specs.Connections.{setting, judging, user, failures, reading}
use Rattle.office.specs.Sessions.{login, live, holder, marks, view, present}
use Rattle.popline.specs.Cutting as cutting
use Rattle.vault.specs.declared.record.Message as store

-- ---- the state

-- a session: who is logged in to which maildrop, when removals are judged, the marked numbers, and
-- the messages of the view
pub record Transaction : Type 0 where
  pub name : LoginName
  pub removals : Removals
  pub marks : List ℕ
  pub view : List store.Message

-- The state that a line meets: AUTHORIZATION, with the login name in force and what a login is
-- answered; or TRANSACTION, with the policy in force and the session.
pub data LineState : Type 0 where
  InAuthorization : (user : Option LoginName) (login : LoginName → Shown → Reply) → LineState
  InTransaction : Policy → Transaction → LineState

-- ---- AUTHORIZATION

-- the third failure closes
abbrev pub login_failed : ℕ → Reply
login_failed failures = if nat_le 2 failures then LoginFailedClosing else LoginFailed

-- how many messages a view has, and their octets
abbrev pub maildrop_has : List store.Message → Reply
maildrop_has view = MaildropHas (length view) (octets_of_all view)

-- The reply to a login, by the credential, the policy, the maildrop and the lock: the first that
-- fails gives it. `found` are the messages that the clerk may read.
abbrev pub login_reply : (admitted : Bool) → (failures : ℕ) → Decision → (there locked : Bool)
    → (found : List store.Message) → Reply
login_reply admitted failures opening there locked found =
    if not admitted then login_failed failures
    else if not opening.allowed then DeniedBy opening.rule
    else if not there then NoSuchMaildrop
    else if locked then InUse
    else maildrop_has found

-- a login name that nobody has
abbrev pub nobody : LoginName
nobody = record { clerk = []; maildrop = [] }

-- the login name, if there is one
abbrev pub name_or_nobody : Option LoginName → LoginName
name_or_nobody None = nobody
name_or_nobody (Some name) = name

-- the reply to a command before a login, by the name in force and what a login is answered
abbrev pub authorization_says : Option LoginName → (LoginName → Shown → Reply) → Command → Reply
authorization_says user login Capa = Capabilities
authorization_says user login (User name) = SendPass
authorization_says user login (Pass password) = login (name_or_nobody user) (ByPass password)
authorization_says user login (Apop name digest) = login name (ByApop digest)
authorization_says user login Quit = Bye
authorization_says user login Stat = WrongState
authorization_says user login ListAll = WrongState
authorization_says user login (ListOne n) = WrongState
authorization_says user login UidlAll = WrongState
authorization_says user login (UidlOne n) = WrongState
authorization_says user login (Retr n) = WrongState
authorization_says user login (Top n k) = WrongState
authorization_says user login (Dele n) = WrongState
authorization_says user login Rset = WrongState
authorization_says user login Noop = WrongState

-- whom a line would log in: for a PASS that is the name in force, for an APOP its own
abbrev pub login_asked : Result Command LineFault → (user : Option LoginName) → Option LoginName
login_asked (Ok (Pass password)) user = user
login_asked (Ok (Apop name digest)) user = Some name
login_asked (Ok Capa) user = None
login_asked (Ok (User name)) user = None
login_asked (Ok Quit) user = None
login_asked (Ok Stat) user = None
login_asked (Ok ListAll) user = None
login_asked (Ok (ListOne n)) user = None
login_asked (Ok UidlAll) user = None
login_asked (Ok (UidlOne n)) user = None
login_asked (Ok (Retr n)) user = None
login_asked (Ok (Top n k)) user = None
login_asked (Ok (Dele n)) user = None
login_asked (Ok Rset) user = None
login_asked (Ok Noop) user = None
login_asked (Err fault) user = None

-- ---- TRANSACTION

-- the reply to a number: what `reply` gives for the unmarked message that it names, or a refusal
abbrev pub pick : List ℕ → List store.Message → ℕ → (store.Message → Reply) → Reply
pick marks view n reply = refer marks view n NoSuchMessage (AlreadyMarked n) reply

-- the reply to a DELE: the number is marked; but if removals are judged at the DELE and a rule
-- denies this one, the rule is named
abbrev pub deleted_if : Removals → Decision → ℕ → Reply
deleted_if JudgedAtDele d n = if d.allowed then Marked n else DeniedBy d.rule
deleted_if JudgedAtQuit d n = Marked n

-- a message is served, or the rule that denies its reading is named
abbrev pub served_if : Decision → Reply → Reply
served_if d reply = if d.allowed then reply else DeniedBy d.rule

-- the farewell, or the rule that kept a marked message from removal
abbrev pub quit_says : Option (List ℕ) → Reply
quit_says None = Bye
quit_says (Some rule) = RemovalDenied rule

-- the reply to a command of a session; USER, PASS and APOP aren't for one
abbrev pub session_says : Policy → Transaction → Command → Reply
session_says p v Capa = Capabilities
session_says p v Stat =
    DropListing (length (unmarked v.marks v.view)) (total_of octets_of (unmarked v.marks v.view))
session_says p v ListAll = ScanListing (sizes_of octets_of (unmarked v.marks v.view))
session_says p v (ListOne n) = pick v.marks v.view n (λ m. ScanLine n (octets_of m))
session_says p v UidlAll = UidListing (uids_of uid_of (unmarked v.marks v.view))
session_says p v (UidlOne n) = pick v.marks v.view n (λ m. UidLine n (uid_of m))
session_says p v (Retr n) =
    pick v.marks v.view n (λ (m : store.Message). served_if (retrieval p v.name m.class)
    (Message (octets_of m) (stuffed_lines (lines_of m.text))))
session_says p v (Top n k) =
    pick v.marks v.view n (λ (m : store.Message). served_if (retrieval p v.name m.class)
    (TopPart (stuffed_lines (top_part (lines_of m.text) k))))
session_says p v (Dele n) = pick v.marks v.view n
    (λ (m : store.Message). deleted_if v.removals (removal p v.name m.class) n)
session_says p v Rset = maildrop_has v.view
session_says p v Noop = Okay
session_says p v Quit = quit_says (denying class_of p v.name v.marks v.view)
session_says p v (User name) = WrongState
session_says p v (Pass password) = WrongState
session_says p v (Apop name digest) = WrongState

-- a message of the view isn't marked, and the policy lets the clerk read it
abbrev pub is_readable : Policy → LoginName → Option store.Message → (is_marked : Bool) → Bool
is_readable policy name None is_marked = false
is_readable policy name (Some m) is_marked = not is_marked && may_read policy name m.class

-- a list without elements
abbrev pub is_empty : {A : Type 0} → List A → Bool
is_empty [] = true
is_empty (x ∷ xs) = false

-- a session's lines that ask the store: for a message's text, or for a removal
abbrev pub transaction_asks : Policy → Transaction → Result Command LineFault → Bool
transaction_asks p v (Ok (Retr n)) = is_readable p v.name (at_number v.view n) (is_marked v.marks n)
transaction_asks p v (Ok (Top n k)) =
    is_readable p v.name (at_number v.view n) (is_marked v.marks n)
transaction_asks p v (Ok Quit) = not (is_empty (to_remove class_of p v.name v.marks v.view))
transaction_asks p v (Ok Capa) = false
transaction_asks p v (Ok (User name)) = false
transaction_asks p v (Ok (Pass password)) = false
transaction_asks p v (Ok (Apop name digest)) = false
transaction_asks p v (Ok Stat) = false
transaction_asks p v (Ok ListAll) = false
transaction_asks p v (Ok (ListOne n)) = false
transaction_asks p v (Ok UidlAll) = false
transaction_asks p v (Ok (UidlOne n)) = false
transaction_asks p v (Ok (Dele n)) = false
transaction_asks p v (Ok Rset) = false
transaction_asks p v (Ok Noop) = false
transaction_asks p v (Err fault) = false

-- ---- a line

-- whether a keyword may be given: before a login, after it, or in both
abbrev pub is_allowed : Keyword → (live has_user : Bool) → Bool
is_allowed keyword.Capa live has_user = true
is_allowed keyword.Quit live has_user = true
is_allowed keyword.User live has_user = not live
is_allowed keyword.Apop live has_user = not live
is_allowed keyword.Pass live has_user = not live && has_user
is_allowed keyword.Stat live has_user = live
is_allowed keyword.List live has_user = live
is_allowed keyword.Uidl live has_user = live
is_allowed keyword.Retr live has_user = live
is_allowed keyword.Top live has_user = live
is_allowed keyword.Dele live has_user = live
is_allowed keyword.Rset live has_user = live
is_allowed keyword.Noop live has_user = live

-- a keyword may be given in this state
abbrev pub is_permitted : LineState → Keyword → Bool
is_permitted (InAuthorization user login) k = is_allowed k false (is_some user)
is_permitted (InTransaction p v) k = is_allowed k true false

-- the reply, or that the command isn't for this state
abbrev pub when_permitted : Bool → Reply → Reply
when_permitted true reply = reply
when_permitted false reply = WrongState

-- the reply if the store failed
abbrev pub refusal : Keyword → Reply
refusal keyword.Quit = RemovalFailed
refusal keyword.Capa = StoreFailed
refusal keyword.User = StoreFailed
refusal keyword.Pass = StoreFailed
refusal keyword.Apop = StoreFailed
refusal keyword.Stat = StoreFailed
refusal keyword.List = StoreFailed
refusal keyword.Uidl = StoreFailed
refusal keyword.Retr = StoreFailed
refusal keyword.Top = StoreFailed
refusal keyword.Dele = StoreFailed
refusal keyword.Rset = StoreFailed
refusal keyword.Noop = StoreFailed

-- the reply to a command that may be given, if the store doesn't fail
abbrev pub obeyed : LineState → Command → Reply
obeyed (InAuthorization user login) command = authorization_says user login command
obeyed (InTransaction p v) command = session_says p v command

-- the reply to a command that may be given
abbrev pub reply_to_command : LineState → Command → Tag → Reply
reply_to_command s command Failed = refusal (keyword_of command)
reply_to_command s command _ = obeyed s command

-- an unknown keyword, a wrong state, bad arguments: the first that holds
abbrev pub reply_to_reading : LineState → Result Command LineFault → Tag → Reply
reply_to_reading s (Err Unknown) t = UnknownCommand
reply_to_reading s (Err (Syntax k)) t = when_permitted (is_permitted s k) BadArguments
reply_to_reading s (Ok command) t =
    when_permitted (is_permitted s (keyword_of command)) (reply_to_command s command t)

-- the reply to a line; it may be too long
abbrev pub reply_to : LineState → Cut → Tag → Reply
reply_to s TooLong t = LineTooLong
reply_to s (cutting.Line l) t = reply_to_reading s (command_of l) t

-- the store may fail at a line that reads so: before a login, at one that is judged
abbrev pub may_fail : LineState → Result Command LineFault → Bool
may_fail (InAuthorization user login) r = is_some (login_asked r user)
may_fail (InTransaction p v) r = transaction_asks p v r

-- ---- by the history

-- the timestamp of a connection's greeting; its boot number and host are the last restart's, since
-- a restart ends every connection
abbrev pub stamp : List Entry → ℕ → List ℕ
stamp G c = timestamp c (setting G).0 (setting G).1

-- whether the policy lets a clerk open a maildrop; the class is empty, since no message is meant
abbrev pub opening : Records → List Entry → LoginName → Decision
opening B G name = decide (in_force B G) name.clerk name.maildrop [] to.Open

-- the reply to a login, after a front
abbrev pub logging_in : Records → List Entry → ℕ → LoginName → Shown → Reply
logging_in B G c name proof = login_reply
    (is_admitted (credential B G name.clerk) name.clerk (stamp G c) proof) (failures G c)
    (opening B G name)
    (exists B G name.maildrop) (is_some (holder G name.maildrop))
    (visible class_of (in_force B G) name (present B G name.maildrop))

-- the session of a connection, after a front
abbrev pub transaction_at : Records → List Entry → ℕ → Transaction
transaction_at B G c = record {
  name = name_or_nobody (login G c);
  removals = judging G;
  marks = marks G c;
  view = view B G c;
}

-- the state that a connection's line meets after a front
abbrev pub state_at : Records → List Entry → ℕ → LineState
state_at B G c = if live G c then InTransaction (in_force B G) (transaction_at B G c)
    else InAuthorization (user G c) (logging_in B G c)

-- the reply to a line after a front
abbrev pub reply_to_cut : Records → List Entry → ℕ → Cut → Tag → Reply
reply_to_cut B G c x t = reply_to (state_at B G c) x t

-- what is said to a line: nothing at want of memory
abbrev pub said_to_line : Records → List Entry → ℕ → Cut → Tag → Said
said_to_line B G c x NoMemory = Silence
said_to_line B G c x t = Says (reply_to_cut B G c x t)

-- the store may fail at a line after a front
abbrev pub line_may_fail : Records → List Entry → ℕ → Cut → Bool
line_may_fail B G c x = may_fail (state_at B G c) (reading x)
