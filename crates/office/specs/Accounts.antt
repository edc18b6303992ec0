-- What an office judged in an event: the account of the line that acted in it, by the history
-- before it.
use Rattle.std.specs.Prelude.{◌≡◌, ℕ, Bool, true, false, List, []}
use Rattle.std.specs.Prelude.{◌∷◌, length, map, Option, Some, None, Result, Ok, Err}
use Rattle.std.specs.Option.{option_map}
use Rattle.creds.specs.declared.login_name.LoginName.{LoginName}
use Rattle.popline.specs.Commands.{Command, Capa, User, Pass, Apop, Quit, Stat, ListAll, ListOne}
use Rattle.popline.specs.Commands.{UidlAll, UidlOne, Retr, Top, Dele, Rset, Noop}
use Rattle.popline.specs.declared.command.LineFault.{LineFault}
use Rattle.popline.specs.declared.command.LineFault.TheVariants.{Syntax, Unknown}
use Rattle.popline.specs.declared.command.Keyword.TheVariants as keyword
use Rattle.popline.specs.Replies.{Greeting, LineTooLong, UnknownCommand, WrongState, BadArguments}
use Rattle.popline.specs.Replies.{Capabilities, SendPass, LoginFailed, LoginFailedClosing}
use Rattle.popline.specs.Replies.{DeniedBy, NoSuchMaildrop, InUse, MaildropHas, DropListing}
use Rattle.popline.specs.Replies.{ScanListing, ScanLine, UidListing, UidLine, Message, TopPart}
use Rattle.popline.specs.Replies.{Marked, Okay, NoSuchMessage, AlreadyMarked, Bye, RemovalDenied}
use Rattle.popline.specs.Replies.{Reply, RemovalFailed, StoreFailed}
use Rattle.policy.specs.Policy.{Policy, decide}
use Rattle.policy.specs.declared.rule.Action.TheVariants as action
use Rattle.popline.specs.Cutting.{Cut}
use Rattle.vault.specs.Records.{Records, class_of, uid_of, octets_of}
use Rattle.vault.specs.declared.answer.Head.{Head}
use Rattle.vault.specs.declared.record.Message as store
use Rattle.session.specs.declared.pick.Pick.{Pick}
use Rattle.session.specs.declared.pick.Pick.TheVariants as pick
use Rattle.session.specs.declared.pick.Readable.{Readable}
use Rattle.session.specs.Session.{Session}
use Rattle.session.specs.Session as head
use Rattle.session.specs.View.{marked as rows_marked, to_remove, removed_by, denying, refer}
use Rattle.session.specs.View.{retrieval}
use Rattle.office.specs.History.{Act, Line, Tag, Done, Failed, NoMemory, Said, Says, Silence}
use Rattle.office.specs.History.{Answers, Entry}
use Rattle.office.specs.History.{in_force, is_done}
use Rattle.office.specs.Connections.{is_quit, reading, user}
use Rattle.office.specs.Sessions.{in_session, marks, view}
use Rattle.office.specs.Replying.{login_asked, name_or_nobody, nobody, said_to_line}
use Rattle.office.specs.Events.{Event, EventTag, Ignored, Tagged, Trace}
use Rattle.office.specs.Events as event
use Rattle.office.specs.Outcomes.{Outcome, Answered, event_tag_of}
use Rattle.office.specs.Answers.{Answer}
use Rattle.office.specs.Answers as answer
use Rattle.office.specs.Told.{administered}
use Rattle.office.specs.Trace.{history, acts_of, is_left}
use Rattle.office.specs.Transaction.{Transaction}
use Rattle.office.specs.declared.login_state.LineOutcome.{LineOutcome}
use Rattle.office.specs.declared.login_state.LineOutcome.TheVariants as outcome
use Rattle.office.specs.declared.answer.MessageRow.{MessageRow}
use Rattle.office.specs.declared.account.Account.{Account}
use Rattle.office.specs.declared.account.LineReport.{LineReport}
use Rattle.office.specs.declared.account.Removal.{Removal}
use Rattle.office.specs.declared.account.Account.TheVariants as account
use Rattle.office.specs.declared.account.End.{End}
use Rattle.office.specs.declared.account.End.TheVariants as end
use Rattle.office.specs.declared.account.MessageCommand.{MessageCommand}
use Rattle.office.specs.declared.account.MessageCommand.TheVariants as to
use Rattle.office.specs.declared.account.Way.{Way}
use Rattle.office.specs.declared.account.Way.TheVariants as way
use Rattle.office.specs.declared.account.Verdict.{Verdict}
use Rattle.office.specs.declared.account.Verdict.TheVariants as as_judged

-- a clerk whom this rule let in is accepted
abbrev pub accepted_by : Option (List ℕ) → Option Verdict
accepted_by None = None
accepted_by (Some rule) = Some (as_judged.Accepted rule)

-- how a login was judged, by what was said to it, and the rule that let the clerk in if one did;
-- what else may be said judges no login
abbrev pub verdict : Said → (rule : Option (List ℕ)) → Option Verdict
verdict (Says (MaildropHas messages octets)) rule = accepted_by rule
verdict (Says LoginFailed) rule = Some as_judged.WrongCredential
verdict (Says LoginFailedClosing) rule = Some as_judged.ThirdWrongCredential
verdict (Says (DeniedBy by)) rule = Some (as_judged.Denied by)
verdict (Says NoSuchMaildrop) rule = Some as_judged.NoSuchMaildrop
verdict (Says InUse) rule = Some as_judged.InUse
verdict (Says StoreFailed) rule = Some as_judged.StoreFailed
verdict (Says (Greeting number boot host)) rule = None
verdict (Says LineTooLong) rule = None
verdict (Says UnknownCommand) rule = None
verdict (Says WrongState) rule = None
verdict (Says BadArguments) rule = None
verdict (Says Capabilities) rule = None
verdict (Says SendPass) rule = None
verdict (Says (DropListing n m)) rule = None
verdict (Says (ScanListing rows)) rule = None
verdict (Says (ScanLine n m)) rule = None
verdict (Says (UidListing rows)) rule = None
verdict (Says (UidLine n uid)) rule = None
verdict (Says (Message octets lines)) rule = None
verdict (Says (TopPart lines)) rule = None
verdict (Says (Marked n)) rule = None
verdict (Says Okay) rule = None
verdict (Says NoSuchMessage) rule = None
verdict (Says (AlreadyMarked n)) rule = None
verdict (Says Bye) rule = None
verdict (Says (RemovalDenied by)) rule = None
verdict (Says RemovalFailed) rule = None
verdict Silence rule = None
verdict (Answers answer) rule = None

-- the account of a login that was judged, if one was, under a name
abbrev pub login_told : Option Verdict → Way → Option LoginName → Account
login_told (Some judged) by (Some name) = account.Login name by judged
login_told _ by name = account.Nothing

-- ---- the message that a line names

-- a message's unique-id and octets
abbrev pub row_of : store.Message → MessageRow
row_of m = record { uid = uid_of m; octets = octets_of m }

-- the message of a number, unless it is marked
abbrev pub row_at : List ℕ → List store.Message → ℕ → Option MessageRow
row_at marks view n = refer marks view n None None (λ m. Some (row_of m))

-- the message that a DELE, RETR or TOP names, of those under these numbers
abbrev pub named : (at : ℕ → Option MessageRow) → Result Command LineFault → Option MessageRow
named at (Ok (Dele n)) = at n
named at (Ok (Retr n)) = at n
named at (Ok (Top n k)) = at n
named at _ = None

-- a rule denied a command for a message
abbrev pub denial_told : MessageCommand → Option MessageRow → (rule : List ℕ) → Account
denial_told command None rule = account.Nothing
denial_told command (Some message) rule = account.Denied command message.uid rule

-- the account of a DELE, RETR or TOP of a message: that was marked, its text or top was sent by a
-- rule that lets the clerk read it, a rule denied it, or none of these
abbrev pub message_told : MessageCommand → Said → (rule : Option (List ℕ)) → Option MessageRow
    → Account
message_told command (Says (Marked number)) rule message = account.Marked
message_told command (Says (Message octets lines)) (Some rule) (Some message) =
    account.Retrieved message rule
message_told command (Says (TopPart lines)) (Some rule) (Some message) =
    account.Topped message rule
message_told command (Says (DeniedBy by)) rule message = denial_told command message by
message_told command _ rule message = account.Nothing

-- ---- the rule that allows

-- the rule that decides whether a clerk may open a maildrop
abbrev pub opening_rule : Policy → LoginName → List ℕ
opening_rule p name = (decide p name.clerk name.maildrop [] action.Open).rule

-- the rule that decides whether who is in session may read a message
abbrev pub reading_rule : Policy → (who : LoginName) → MessageRow → List ℕ
reading_rule p who message = (retrieval p who message.uid.class).rule

-- the rule that decides on what a line asks for: that a message is sent, or on a login
abbrev pub deciding : Policy → (who : LoginName) → Result Command LineFault
    → (user : Option LoginName) → (message : Option MessageRow) → Option (List ℕ)
deciding p who (Ok (Retr n)) user message = option_map (reading_rule p who) message
deciding p who (Ok (Top n k)) user message = option_map (reading_rule p who) message
deciding p who r user message = option_map (opening_rule p) (login_asked r user)

-- ---- a line

-- the account of a RSET: it took all marks away, or wasn't for its state
abbrev pub reset_told : Said → Account
reset_told (Says (MaildropHas messages octets)) = account.Unmarked
reset_told _ = account.Nothing

-- The account of a command, by what was said to it, the rule that decides on what it asks for, the
-- name in force before it and the message that it names. Only a PASS with a name in force and an
-- APOP are logins.
abbrev pub command_account : Command → Said → (rule : Option (List ℕ))
    → (user : Option LoginName) → (message : Option MessageRow) → Account
command_account (Pass password) said rule user m = login_told (verdict said rule) way.Pass user
command_account (Apop name digest) said rule user m =
    login_told (verdict said rule) way.Apop (Some name)
command_account (Dele n) said rule user m = message_told to.Dele said rule m
command_account (Retr n) said rule user m = message_told to.Retr said rule m
command_account (Top n k) said rule user m = message_told to.Top said rule m
command_account Rset said rule user m = reset_told said
command_account Quit said rule user m = account.QuitBeforeLogin
command_account Capa said rule user m = account.Nothing
command_account (User name) said rule user m = account.Nothing
command_account Stat said rule user m = account.Nothing
command_account ListAll said rule user m = account.Nothing
command_account (ListOne n) said rule user m = account.Nothing
command_account UidlAll said rule user m = account.Nothing
command_account (UidlOne n) said rule user m = account.Nothing
command_account Noop said rule user m = account.Nothing

-- the account of a line that reads as no command
abbrev pub fault_told : LineFault → Said → Account
fault_told Unknown said = account.Nothing
fault_told (Syntax keyword.User) (Says BadArguments) = account.NoName
fault_told (Syntax keyword.Apop) (Says BadArguments) = account.NoName
fault_told (Syntax keyword.Capa) said = account.Nothing
fault_told (Syntax keyword.User) said = account.Nothing
fault_told (Syntax keyword.Pass) said = account.Nothing
fault_told (Syntax keyword.Apop) said = account.Nothing
fault_told (Syntax keyword.Quit) said = account.Nothing
fault_told (Syntax keyword.Stat) said = account.Nothing
fault_told (Syntax keyword.List) said = account.Nothing
fault_told (Syntax keyword.Uidl) said = account.Nothing
fault_told (Syntax keyword.Retr) said = account.Nothing
fault_told (Syntax keyword.Top) said = account.Nothing
fault_told (Syntax keyword.Dele) said = account.Nothing
fault_told (Syntax keyword.Rset) said = account.Nothing
fault_told (Syntax keyword.Noop) said = account.Nothing

-- the same of a line that reads so; that of a session's QUIT is another
abbrev pub line_account : Result Command LineFault → Said → (rule : Option (List ℕ))
    → (user : Option LoginName) → (message : Option MessageRow) → Account
line_account (Ok command) said rule user message = command_account command said rule user message
line_account (Err fault) said rule user message = fault_told fault said

-- the same, by the policy and by who is in session, which say the rule
abbrev pub account_under : Policy → (who : LoginName) → Result Command LineFault → Said
    → (user : Option LoginName) → (message : Option MessageRow) → Account
account_under p who r said user message =
    line_account r said (deciding p who r user message) user message

-- a QUIT's account, or that of another line
abbrev pub quit_or : (quits : Bool) → (quit other : Account) → Account
quit_or true quit other = quit
quit_or false quit other = other

-- what the QUIT of a session removed: what the policy lets its clerk remove of what is marked
abbrev pub removal_by : Records → List Entry → ℕ → Tag → LoginName → Removal
removal_by B G c t name = record {
  name = name;
  marked = length (rows_marked (marks G c) (view B G c));
  removed = map (removed_by class_of uid_of (in_force B G) name)
      (to_remove class_of (in_force B G) name (marks G c) (view B G c));
  denied = denying class_of (in_force B G) name (marks G c) (view B G c);
  is_done = is_done t;
}

-- the account of a QUIT, in a session or before a login
abbrev pub quit_account : Option LoginName → (LoginName → Removal) → Account
quit_account None removal = account.QuitBeforeLogin
quit_account (Some name) removal = account.Quit (removal name)

-- a line before a login names no message
abbrev pub in_login : Option LoginName → Option MessageRow → Option MessageRow
in_login None message = None
in_login (Some name) message = message

-- the message that a line names after a front
abbrev pub named_at : Records → List Entry → ℕ → Result Command LineFault → Option MessageRow
named_at B G c r = in_login (in_session G c) (named (row_at (marks G c) (view B G c)) r)

-- the account of a line after a front; of nothing at want of memory
abbrev pub line_told : Records → List Entry → ℕ → Cut → Tag → Account
line_told B G c x NoMemory = account.Nothing
line_told B G c x t =
    quit_or (is_quit (reading x)) (quit_account (in_session G c) (removal_by B G c t))
    (account_under (in_force B G) (name_or_nobody (in_session G c)) (reading x)
    (said_to_line B G c x t) (user G c) (named_at B G c (reading x)))

-- the account of an event's acts, of which one at most is a line
abbrev pub acts_account : Records → List Entry → List (Act × Tag) → Account
acts_account B G ((Line c x, t) ∷ []) = line_told B G c x t
acts_account B G _ = account.Nothing

-- the account of the acts of an event that shows this tag
abbrev pub acts_told : Trace → Event → Tag → Account
acts_told T e t = acts_account T.base (history T) (acts_of T.log (history T) e t)

-- all that was owed is taken: the line that acts then is told; if none is told, that it is taken
abbrev pub taken_told : Account → Account
taken_told account.Nothing = account.Taken
taken_told told = told

-- a part of it is taken, by which no line acts, or all
abbrev pub part_or_all_told : (left : Bool) → Account → Account
part_or_all_told true told = told
part_or_all_told false told = taken_told told

-- a page that is refused ends the connection; a line at which the store fails has its own account
abbrev pub failed_told : (left : Bool) → Account → Account
failed_told true told = account.Ended end.StoreFailed
failed_told false told = taken_told told

-- memory was wanting for more of what was owed, or, if all of it is taken, for the next line
abbrev pub lacking : (left : Bool) → End
lacking true = end.NoMemory
lacking false = end.NoMemoryForLine

-- a command that was answered so ended a session, and the connection with it
abbrev pub answer_told : Answer → Account
answer_told answer.Ended = account.Ended end.SessionEnded
answer_told _ = account.Nothing

-- what the outcome of a command says
abbrev pub outcome_told : Outcome → Account
outcome_told (Answered answer) = answer_told answer
outcome_told _ = account.Nothing

-- The account of an event that shows this tag: why it ended its connection, if no line did; that of
-- its acts; or that all that was owed is taken.
abbrev pub account_at : Trace → Event → Tag → Account
account_at T (event.Gone c) t = account.Ended end.Gone
account_at T (event.Bytes c piece) NoMemory = account.Ended end.NoMemoryForLine
account_at T (event.Took c octets) NoMemory =
    account.Ended (lacking (is_left T.log (history T) c octets))
account_at T (event.Took c octets) Failed =
    failed_told (is_left T.log (history T) c octets) (acts_told T (event.Took c octets) Failed)
account_at T (event.Took c octets) Done =
    part_or_all_told (is_left T.log (history T) c octets) (acts_told T (event.Took c octets) Done)
account_at T (event.Admin command) Done =
    answer_told (administered T.base (history T) command)
account_at T e t = acts_told T e t

-- the account of a trace's next event, which got this tag
abbrev pub account_of : Trace → Event → EventTag → Account
account_of T e Ignored = account.Nothing
account_of T e (Tagged t) = account_at T e t

-- this is the account of an event with this outcome
abbrev pub IsAccount : Trace → Event → Outcome → Account → Type 0
IsAccount T e o told = told ≡ account_of T e (event_tag_of o)

-- the account of octets that make a line whole, or none
abbrev pub account_if : (has_line : Bool) → Account → Account
account_if true told = told
account_if false told = account.Nothing

-- ---- by what is kept

-- whether a line that was answered so was done
abbrev pub was_done : LineOutcome → Bool
was_done outcome.Done = true
was_done outcome.Failed = false

-- what a QUIT removes of a session's messages
abbrev pub removal_told : LineOutcome → Policy → Session → Removal
removal_told w p s = record {
  name = s.name;
  marked = length (rows_marked s.marks s.view);
  removed = map (removed_by head.class_of head.uid_of p s.name)
      (to_remove head.class_of p s.name s.marks s.view);
  denied = denying head.class_of p s.name s.marks s.view;
  is_done = was_done w;
}

-- the same, with the messages as the store holds them
abbrev pub removal_seen : LineOutcome → Policy → Transaction → Removal
removal_seen w p v = record {
  name = v.name;
  marked = length (rows_marked v.marks v.view);
  removed = map (removed_by class_of uid_of p v.name)
      (to_remove class_of p v.name v.marks v.view);
  denied = denying class_of p v.name v.marks v.view;
  is_done = was_done w;
}

-- a head's unique-id and octets
abbrev pub row_of_head : Head → MessageRow
row_of_head h = record { uid = head.uid_of h; octets = h.octets }

-- the message of a number of a session, unless it is marked
abbrev pub row_kept : Session → ℕ → Option MessageRow
row_kept s n = refer s.marks s.view n None None (λ h. Some (row_of_head h))

-- a command did to the message that it names what it says, by this rule
abbrev pub done_told : MessageCommand → Option MessageRow → (rule : List ℕ) → Account
done_told command None rule = account.Nothing
done_told to.Dele (Some message) rule = account.Marked
done_told to.Retr (Some message) rule = account.Retrieved message rule
done_told to.Top (Some message) rule = account.Topped message rule

-- which command sends a message: RETR, or TOP of so many lines
abbrev pub sent_by : (lines : Option ℕ) → MessageCommand
sent_by None = to.Retr
sent_by (Some k) = to.Top

-- the account of a RETR or TOP at which the store doesn't fail, by whether the message may be read
abbrev pub sending_told : MessageCommand → Result Readable Pick → Option MessageRow → Account
sending_told command (Ok readable) message = done_told command message readable.rule
sending_told command (Err (pick.Denied rule)) message = denial_told command message rule
sending_told command (Err pick.NoSuch) message = account.Nothing
sending_told command (Err pick.Deleted) message = account.Nothing

-- if the store fails at a command, nothing is said of it
abbrev pub told_if_done : LineOutcome → Account → Account
told_if_done outcome.Done told = told
told_if_done outcome.Failed told = account.Nothing

-- the report of a session's line that was answered so, and tells this if it was done
abbrev pub reported : {E : Type 0} → Result LineOutcome E → Account → Result LineReport E
reported (Ok w) told = Ok (record { outcome = w; account = told_if_done w told })
reported (Err e) told = Err e

-- the message that a session's line names
abbrev pub named_in : Transaction → Result Command LineFault → Option MessageRow
named_in v r = named (row_at v.marks v.view) r

-- the message that a line names by the session, if there is one
abbrev pub named_seen : Option Transaction → Result Command LineFault → Option MessageRow
named_seen None r = None
named_seen (Some v) r = named_in v r

-- the account of a QUIT by the session, if there is one
abbrev pub quit_seen : LineOutcome → Policy → Option Transaction → Account
quit_seen w p None = account.QuitBeforeLogin
quit_seen w p (Some v) = account.Quit (removal_seen w p v)

-- the account of a session's line by what is kept of the session, by what was said to it and the
-- message that it names; no line of a session is a login, so no name in force counts
abbrev pub transaction_account : LineOutcome → Policy → Session → Result Command LineFault → Said
    → (message : Option MessageRow) → Account
transaction_account w p s r said message =
    quit_or (is_quit r) (account.Quit (removal_told w p s))
    (account_under p s.name r said None message)

-- who is in the session, if there is one
abbrev pub who_in : Option Transaction → LoginName
who_in None = nobody
who_in (Some v) = v.name

-- the rule that let a clerk in, if this is the reply to a login that was accepted
abbrev pub let_in : Reply → (rule : Option (List ℕ)) → Option (List ℕ)
let_in (MaildropHas messages octets) rule = rule
let_in _ rule = None

-- the same, by what the line asks for
abbrev pub let_in_by : Policy → Result Command LineFault → (user : Option LoginName) → Reply
    → Option (List ℕ)
let_in_by p r user reply = let_in reply (option_map (opening_rule p) (login_asked r user))

-- the account of a line by the session, if there is one
abbrev pub state_account : LineOutcome → Policy → Option Transaction → Result Command LineFault
    → Said
    → (user : Option LoginName) → Account
state_account w p v r said user =
    quit_or (is_quit r) (quit_seen w p v)
    (account_under p (who_in v) r said user (named_seen v r))
