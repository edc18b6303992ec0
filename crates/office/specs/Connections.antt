-- What a history says of one connection: whether it is connected and closing, how many lines acted,
-- what it was sent, and the login name in force (RFC 1939, 4; RFC 2449, 4).
use Rattle.std.specs.Prelude.{ℕ, Bool, true, false, ◌&&◌, ◌||◌, ◌+◌, ◌==◌, nat_lt, List, [], ◌∷◌}
use Rattle.std.specs.Prelude.{◌++◌, Option, Some, None, Result, Ok, Err, if◌then◌else◌}
use Rattle.creds.specs.declared.login_name.LoginName.{LoginName}
use Rattle.popline.specs.Cutting.{Cut, TooLong}
use Rattle.popline.specs.Commands.{Command, Capa, User, Pass, Apop, Quit, Stat, ListAll, ListOne}
use Rattle.popline.specs.Commands.{UidlAll, UidlOne, Retr, Top, Dele, Rset, Noop, command_of}
use Rattle.popline.specs.declared.command.LineFault.{LineFault}
use Rattle.popline.specs.declared.command.LineFault.TheVariants.{Unknown}
use Rattle.popline.specs.Replies.{Greeting, LineTooLong, UnknownCommand, WrongState, BadArguments}
use Rattle.popline.specs.Replies.{Capabilities, SendPass, LoginFailed, LoginFailedClosing}
use Rattle.popline.specs.Replies.{DeniedBy, NoSuchMaildrop, InUse, MaildropHas, DropListing}
use Rattle.popline.specs.Replies.{ScanListing, ScanLine, UidListing, UidLine, Message, TopPart}
use Rattle.popline.specs.Replies.{Marked, Okay, NoSuchMessage, AlreadyMarked, Bye, RemovalDenied}
use Rattle.popline.specs.Replies.{RemovalFailed, StoreFailed, bytes_of}
use Rattle.session.specs.declared.removals.Removals.{Removals}
use Rattle.session.specs.declared.removals.Removals.TheVariants.{JudgedAtDele}
use Rattle.office.specs.Answers.{EndSession, Ended}
use Rattle.office.specs.History.{NoMemory, Line, Administer, Tag, Idle, Gone, Says, Restart, Open}
use Rattle.office.specs.History.{Said, Silence, Answers, Act, Entry}
use Rattle.popline.specs.Cutting as cutting

-- ---- connections

-- what a line reads as; one that is too long is an unknown command
abbrev pub reading : Cut → Result Command LineFault
reading (cutting.Line l) = command_of l
reading TooLong = Err Unknown

-- a QUIT without arguments
abbrev pub is_quit : Result Command LineFault → Bool
is_quit (Ok Quit) = true
is_quit _ = false

-- an act that opens this connection
abbrev pub opens : Act → ℕ → Bool
opens (Open n) c = n == c
opens _ c = false

-- the number and the host's name of the last restart, and when removals are judged since
abbrev pub setting_after : Act → ℕ × List ℕ × Removals → ℕ × List ℕ × Removals
setting_after (Restart boot host removals) before = (boot, host, removals)
setting_after _ before = before

-- the boot number and the host's name that greetings have, and when removals are judged
abbrev pub setting : List Entry → ℕ × List ℕ × Removals
setting [] = (0, [], JudgedAtDele)
setting (e ∷ G) = setting_after e.act (setting G)

-- when removals are judged
abbrev pub judging : List Entry → Removals
judging G = (setting G).2

-- whether a connection is connected after an entry: it was opened, and nothing ended it since but,
-- maybe, its own QUIT or third refused credential
abbrev pub connected_after : Act → Tag → Said → ℕ → Bool → Bool
connected_after (Open n) t said c before = if n == c then true else before
connected_after (Line n x) NoMemory said c before = if n == c then false else before
connected_after (Gone n) t said c before = if n == c then false else before
connected_after (Idle n) t said c before = if n == c then false else before
connected_after (Restart boot host removals) t said c before = false
connected_after (Administer (EndSession n)) t (Answers Ended) c before =
    if n == c then false else before
connected_after _ t said c before = before

-- whether a connection is connected at the end of a history
abbrev pub connected : List Entry → ℕ → Bool
connected [] c = false
connected (e ∷ G) c = connected_after e.act e.tag e.said c (connected G c)

-- a line closes its connection: a QUIT, or the third refused credential
abbrev pub closes : Result Command LineFault → Said → Bool
closes r (Says LoginFailedClosing) = true
closes r _ = is_quit r

-- an opening begins anew; a connection that closes stays so
abbrev pub closing_after : Act → Said → ℕ → Bool → Bool
closing_after (Open n) said c before = if n == c then false else before
closing_after (Line n x) said c before =
    if n == c then closes (reading x) said || before else before
closing_after _ said c before = before

-- whether a connection is to end as soon as all is taken
abbrev pub closing : List Entry → ℕ → Bool
closing [] c = false
closing (e ∷ G) c = closing_after e.act e.said c (closing G c)

-- how many of its lines acted
abbrev pub acted_after : Act → ℕ → ℕ → ℕ
acted_after (Open n) c before = if n == c then 0 else before
acted_after (Line n x) c before = if n == c then before + 1 else before
acted_after _ c before = before

-- the lines that acted since its opening
abbrev pub acted : List Entry → ℕ → ℕ
acted [] c = 0
acted (e ∷ G) c = acted_after e.act c (acted G c)

-- the last reply has a message or a part of one
abbrev pub has_message : Said → Bool
has_message (Says (Message octets lines)) = true
has_message (Says (TopPart lines)) = true
has_message (Says (Greeting number boot host)) = false
has_message (Says LineTooLong) = false
has_message (Says UnknownCommand) = false
has_message (Says WrongState) = false
has_message (Says BadArguments) = false
has_message (Says Capabilities) = false
has_message (Says SendPass) = false
has_message (Says LoginFailed) = false
has_message (Says LoginFailedClosing) = false
has_message (Says (DeniedBy rule)) = false
has_message (Says NoSuchMaildrop) = false
has_message (Says InUse) = false
has_message (Says (MaildropHas n m)) = false
has_message (Says (DropListing n m)) = false
has_message (Says (ScanListing rows)) = false
has_message (Says (ScanLine n m)) = false
has_message (Says (UidListing rows)) = false
has_message (Says (UidLine n uid)) = false
has_message (Says (Marked n)) = false
has_message (Says Okay) = false
has_message (Says NoSuchMessage) = false
has_message (Says (AlreadyMarked n)) = false
has_message (Says Bye) = false
has_message (Says (RemovalDenied rule)) = false
has_message (Says RemovalFailed) = false
has_message (Says StoreFailed) = false
has_message Silence = false
has_message (Answers answer) = false

-- each line's reply becomes the last one
abbrev pub serving_after : Act → Said → ℕ → Bool → Bool
serving_after (Open n) said c before = if n == c then false else before
serving_after (Line n x) said c before = if n == c then has_message said else before
serving_after _ said c before = before

-- whether the last reply to a connection has a message's octets
abbrev pub serving : List Entry → ℕ → Bool
serving [] c = false
serving (e ∷ G) c = serving_after e.act e.said c (serving G c)

-- the octets of a reply; an answer goes to its asker and to no connection
abbrev pub octets_said : Said → List ℕ
octets_said (Says reply) = bytes_of reply
octets_said _ = []

-- an opening sends the greeting, and each line its reply
abbrev pub sent_after : Act → Said → ℕ → List ℕ → List ℕ
sent_after (Open n) said c before = if n == c then octets_said said else before
sent_after (Line n x) said c before = if n == c then before ++ octets_said said else before
sent_after _ said c before = before

-- all that a connection was sent since its last opening: the greeting and each reply, joined
abbrev pub sent : List Entry → ℕ → List ℕ
sent [] c = []
sent (e ∷ G) c = sent_after e.act e.said c (sent G c)

-- an ascending list with one number more, unless it is there
abbrev pub put_number : ℕ → List ℕ → List ℕ
put_number n [] = n ∷ []
put_number n (x ∷ xs) =
    if n == x then x ∷ xs else if nat_lt n x then n ∷ x ∷ xs else x ∷ put_number n xs

-- a line adds its connection's number
abbrev pub heard_after : Act → List ℕ → List ℕ
heard_after (Line n x) before = put_number n before
heard_after _ before = before

-- the numbers of the connections that gave lines, ascending and each once
abbrev pub heard : List Entry → List ℕ
heard [] = []
heard (e ∷ G) = heard_after e.act (heard G)

-- ---- logging in

-- the login name in force after a line: an accepted USER sets it, an answered CAPA leaves it, any
-- other line withdraws it
abbrev pub user_after_line : Result Command LineFault → Said → Option LoginName → Option LoginName
user_after_line (Ok (User name)) (Says SendPass) before = Some name
user_after_line (Ok Capa) (Says Capabilities) before = before
user_after_line (Ok Capa) said before = None
user_after_line (Ok (User name)) said before = None
user_after_line (Ok (Pass password)) said before = None
user_after_line (Ok (Apop name digest)) said before = None
user_after_line (Ok Quit) said before = None
user_after_line (Ok Stat) said before = None
user_after_line (Ok ListAll) said before = None
user_after_line (Ok (ListOne n)) said before = None
user_after_line (Ok UidlAll) said before = None
user_after_line (Ok (UidlOne n)) said before = None
user_after_line (Ok (Retr n)) said before = None
user_after_line (Ok (Top n k)) said before = None
user_after_line (Ok (Dele n)) said before = None
user_after_line (Ok Rset) said before = None
user_after_line (Ok Noop) said before = None
user_after_line (Err fault) said before = None

-- an opening leaves no name in force
abbrev pub user_after : Act → Said → ℕ → Option LoginName → Option LoginName
user_after (Open n) said c before = if n == c then None else before
user_after (Line n x) said c before = if n == c then user_after_line
    (reading x) said before else before
user_after _ said c before = before

-- the login name in force on a connection
abbrev pub user : List Entry → ℕ → Option LoginName
user [] c = None
user (e ∷ G) c = user_after e.act e.said c (user G c)

-- a reply that refuses a credential, closing or not
abbrev pub is_failure : Said → Bool
is_failure (Says LoginFailed) = true
is_failure (Says LoginFailedClosing) = true
is_failure _ = false

-- an opening begins to count anew
abbrev pub failures_after : Act → Said → ℕ → ℕ → ℕ
failures_after (Open n) said c before = if n == c then 0 else before
failures_after (Line n x) said c before = if n == c && is_failure said then before + 1 else before
failures_after _ said c before = before

-- how many credentials were refused since the opening
abbrev pub failures : List Entry → ℕ → ℕ
failures [] c = 0
failures (e ∷ G) c = failures_after e.act e.said c (failures G c)
