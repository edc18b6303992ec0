-- What a history says of sessions: logins, the lock, marks, views, what a QUIT removed, and the
-- records that are left (RFC 1939, 4 to 6).
use Rattle.std.specs.Prelude.{ℕ, Bool, true, false, not, ◌&&◌, ◌||◌, ◌==◌, List, [], ◌∷◌, ◌++◌}
use Rattle.std.specs.Prelude.{Option, Some, None, Result, Ok, Err, if◌then◌else◌, is_some}
use Rattle.std.specs.List.{find}
use Rattle.std.specs.Str.{bytes_eq}
use Rattle.creds.specs.declared.login_name.LoginName.{LoginName}
use Rattle.popline.specs.Commands.{Command, Capa, User, Pass, Apop, Quit, Stat, ListAll, ListOne}
use Rattle.popline.specs.Commands.{UidlAll, UidlOne, Retr, Top, Dele, Rset, Noop}
use Rattle.popline.specs.declared.command.LineFault.{LineFault}
use Rattle.popline.specs.Replies.{Greeting, LineTooLong, UnknownCommand, WrongState, BadArguments}
use Rattle.popline.specs.Replies.{Capabilities, SendPass, LoginFailed, LoginFailedClosing}
use Rattle.popline.specs.Replies.{DeniedBy, NoSuchMaildrop, InUse, MaildropHas, DropListing}
use Rattle.popline.specs.Replies.{ScanListing, ScanLine, UidListing, UidLine, Message, TopPart}
use Rattle.popline.specs.Replies.{Marked, Okay, NoSuchMessage, AlreadyMarked, Bye, RemovalDenied}
use Rattle.popline.specs.Replies.{RemovalFailed, StoreFailed}
use Rattle.vault.specs.Records.{Records, class_of, without, in_maildrop}
use Rattle.session.specs.View.{visible, to_remove}
use Rattle.office.specs.Answers.{EndSession, Ended}
use Rattle.office.specs.History.{Line, Administer, is_no_memory, arrivals, Tag, Idle, in_force}
use Rattle.office.specs.History.{clerks, Gone, Says, Restart, Open, receipts, Said, Answers}
use Rattle.office.specs.History.{Silence}
use Rattle.office.specs.History.{maildrops, is_done, Act, Entry, arrived}
use Rattle.office.specs.Connections.{heard, is_quit, reading, user, opens}
use Rattle.vault.specs.declared.record.Message as store

-- ---- sessions

-- whom a line logs in, if it was accepted; for a PASS that is the name that was in force
abbrev pub logs_in : Result Command LineFault → Said → Option LoginName → Option LoginName
logs_in (Ok (Pass password)) (Says (MaildropHas n m)) before = before
logs_in (Ok (Apop name digest)) (Says (MaildropHas n m)) before = Some name
logs_in (Ok Capa) said before = None
logs_in (Ok (User name)) said before = None
logs_in (Ok (Pass password)) said before = None
logs_in (Ok (Apop name digest)) said before = None
logs_in (Ok Quit) said before = None
logs_in (Ok Stat) said before = None
logs_in (Ok ListAll) said before = None
logs_in (Ok (ListOne n)) said before = None
logs_in (Ok UidlAll) said before = None
logs_in (Ok (UidlOne n)) said before = None
logs_in (Ok (Retr n)) said before = None
logs_in (Ok (Top n k)) said before = None
logs_in (Ok (Dele n)) said before = None
logs_in (Ok Rset) said before = None
logs_in (Ok Noop) said before = None
logs_in (Err fault) said before = None

-- whom an entry logs in on a connection; the last argument is the name in force before it
abbrev pub login_by : Act → Said → ℕ → Option LoginName → Option LoginName
login_by (Line n x) said c name = if n == c then logs_in (reading x) said name else None
login_by _ said c name = None

-- whom a connection is logged in as after an entry
abbrev pub login_after : (opened : Bool) → (logged_in before : Option LoginName) → Option LoginName
login_after true logged_in before = None
login_after false None before = before
login_after false (Some name) before = Some name

-- whom a connection is logged in as since its last opening, whether or not the session lives on
abbrev pub login : List Entry → ℕ → Option LoginName
login [] c = None
login (e ∷ G) c = login_after (opens e.act c) (login_by e.act e.said c (user G c)) (login G c)

-- whether an entry ends a session
abbrev pub ends_session : Act → Tag → Said → ℕ → Bool
ends_session (Open n) tag said c = n == c
ends_session (Line n x) tag said c = n == c && (is_quit (reading x) || is_no_memory tag)
ends_session (Gone n) tag said c = n == c
ends_session (Idle n) tag said c = n == c
ends_session (Restart boot host removals) tag said c = true
ends_session (Administer (EndSession n)) tag (Answers Ended) c = n == c
ends_session _ tag said c = false

-- a session lives on a connection: it logged in, and nothing ended the session since
abbrev pub live : List Entry → ℕ → Bool
live [] c = false
live (e ∷ G) c = not (ends_session e.act e.tag e.said c) &&
    (is_some (login_by e.act e.said c (user G c)) || live G c)

-- the name, if the session lives
abbrev pub when_live : Bool → Option LoginName → Option LoginName
when_live true name = name
when_live false name = None

-- who is in session on a connection
abbrev pub in_session : List Entry → ℕ → Option LoginName
in_session G c = when_live (live G c) (login G c)

-- a login to this maildrop
abbrev pub is_login_to : List ℕ → Option LoginName → Bool
is_login_to d None = false
is_login_to d (Some name) = bytes_eq name.maildrop d

-- a session on a connection holds a maildrop
abbrev pub holds : List Entry → List ℕ → ℕ → Bool
holds G d c = live G c && is_login_to d (login G c)

-- the connection that holds a maildrop, if one does
abbrev pub holder : List Entry → List ℕ → Option ℕ
holder G d = find (holds G d) (heard G)

-- a DELE that was accepted adds a mark, a login and a RSET leave none
abbrev pub marks_after_line : Said → List ℕ → List ℕ
marks_after_line (Says (Marked n)) before = before ++ n ∷ []
marks_after_line (Says (MaildropHas n m)) before = []
marks_after_line (Says (Greeting number boot host)) before = before
marks_after_line (Says LineTooLong) before = before
marks_after_line (Says UnknownCommand) before = before
marks_after_line (Says WrongState) before = before
marks_after_line (Says BadArguments) before = before
marks_after_line (Says Capabilities) before = before
marks_after_line (Says SendPass) before = before
marks_after_line (Says LoginFailed) before = before
marks_after_line (Says LoginFailedClosing) before = before
marks_after_line (Says (DeniedBy rule)) before = before
marks_after_line (Says NoSuchMaildrop) before = before
marks_after_line (Says InUse) before = before
marks_after_line (Says (DropListing n m)) before = before
marks_after_line (Says (ScanListing rows)) before = before
marks_after_line (Says (ScanLine n m)) before = before
marks_after_line (Says (UidListing rows)) before = before
marks_after_line (Says (UidLine n uid)) before = before
marks_after_line (Says (Message octets lines)) before = before
marks_after_line (Says (TopPart lines)) before = before
marks_after_line (Says Okay) before = before
marks_after_line (Says NoSuchMessage) before = before
marks_after_line (Says (AlreadyMarked n)) before = before
marks_after_line (Says Bye) before = before
marks_after_line (Says (RemovalDenied rule)) before = before
marks_after_line (Says RemovalFailed) before = before
marks_after_line (Says StoreFailed) before = before
marks_after_line Silence before = before
marks_after_line (Answers answer) before = before

-- only a connection's own lines change its marks
abbrev pub marks_after : Act → Said → ℕ → List ℕ → List ℕ
marks_after (Line n x) said c before = if n == c then marks_after_line said before else before
marks_after _ said c before = before

-- the numbers that a session has marked
abbrev pub marks : List Entry → ℕ → List ℕ
marks [] c = []
marks (e ∷ G) c = marks_after e.act e.said c (marks G c)

-- the connection that quits by an entry
abbrev pub quits_if : Bool → ℕ → Option ℕ
quits_if true n = Some n
quits_if false n = None

-- a QUIT line that is done quits, and nothing else does
abbrev pub quits : Act → Tag → Option ℕ
quits (Line n x) tag = quits_if (is_quit (reading x) && is_done tag) n
quits _ tag = None

-- ---- what a session sees, and what sessions removed

-- a session's view after an entry: what its login finds, if the entry is a login
abbrev pub view_after : Option LoginName → (found : LoginName → List store.Message)
    → (before : List store.Message) → List store.Message
view_after None found before = before
view_after (Some name) found before = found name

-- what a session removes; a connection without one removes nothing
abbrev pub removed_by : Option LoginName → (chosen : LoginName → List store.Message)
    → List store.Message
removed_by None chosen = []
removed_by (Some name) chosen = chosen name

-- what an act removes comes after what was removed before
abbrev pub removed_after : Option ℕ → (taken : ℕ → List store.Message)
    → (before : List store.Message) → List store.Message
removed_after None taken before = before
removed_after (Some c) taken before = before ++ taken c

-- A session's view is what its login found. Messages are removed by a session's QUIT alone.
abbrev mutual
  pub view : Records → List Entry → ℕ → List store.Message
  view B [] c = []
  view B (e ∷ G) c = view_after (login_by e.act e.said c (user G c))
      (λ (name : LoginName). visible class_of (in_force B G) name
      (without (in_maildrop name.maildrop (arrivals B G)) (removed B G)))
      (view B G c)

  pub removed : Records → List Entry → List store.Message
  removed B [] = []
  removed B (e ∷ G) = removed_after (quits e.act e.tag)
      (λ c. removed_by (in_session G c)
      (λ (name : LoginName). to_remove class_of (in_force B G) name (marks G c) (view B G c)))
      (removed B G)

-- the messages that a maildrop has
abbrev pub present : Records → List Entry → List ℕ → List store.Message
present B G d = without (arrived B G d) (removed B G)

-- ---- the records of a history

-- the records of a store after a history
abbrev pub records : Records → List Entry → Records
records B G = record {
  clerks = clerks B G;
  maildrops = maildrops B G;
  messages = without (arrivals B G) (removed B G);
  deposits = receipts B G;
  policy = in_force B G;
}
