-- What the log keeps of the connections' sessions, by the accounts that it heard, and what its
-- lines tell of them.
use Rattle.std.specs.Prelude.{ℕ, zero, suc, Bool, true, false, ◌&&◌, ◌==◌}
use Rattle.std.specs.Prelude.{List, [], ◌∷◌, ◌++◌, map, position, Option, Some, None, codes}
use Rattle.std.specs.Prelude.{if◌then◌else◌, string_bytes}
use Rattle.std.specs.Fmt.{decimal}
use Rattle.std.specs.Str.{bytes_eq}
use Rattle.creds.specs.Uid.{uid_text}
use Rattle.creds.specs.declared.uid.Uid.{Uid}
use Rattle.creds.specs.declared.login_name.LoginName.{LoginName}
use Rattle.office.specs.declared.account.Account.{Account}
use Rattle.office.specs.declared.account.Account.TheVariants as account
use Rattle.office.specs.declared.account.End.TheVariants as end
use Rattle.office.specs.declared.account.Verdict.{Verdict}
use Rattle.office.specs.declared.account.Verdict.TheVariants as judged
use Rattle.journal.specs.Lines.{account_text, is_told, name_text}
use Rattle.journal.specs.Counts.{no_counts, with_dele, with_reset, with_retr, with_top, with_denial}
use Rattle.journal.specs.Counts.{counts_text, more, gets_a_line}
use Rattle.journal.specs.declared.counts.Counts.{Counts}
use Rattle.journal.specs.declared.denials.Denial.{Denial}
use Rattle.journal.specs.declared.heard.Heard.{Heard}
use Rattle.journal.specs.declared.client.Client.{Client}

-- ---- what an account changes

-- an accepted login begins a session, without a mark or a command; another one changes nothing
abbrev pub judged_so : LoginName → Verdict → Heard → Heard
judged_so name (judged.Accepted rule) heard =
    record {
      name = Some name;
      is_in = true;
      marked = 0;
      counts = no_counts;
      has_quit = heard.has_quit;
      sending = heard.sending;
    }
judged_so name judged.WrongCredential heard = heard
judged_so name judged.ThirdWrongCredential heard = heard
judged_so name (judged.Denied rule) heard = heard
judged_so name judged.NoSuchMaildrop heard = heard
judged_so name judged.InUse heard = heard
judged_so name judged.StoreFailed heard = heard

-- a message more is marked, by a DELE more
abbrev pub with_mark : Heard → Heard
with_mark heard =
    record heard { marked = more 1 heard.marked; counts = with_dele heard.counts }

-- no message is marked, by a RSET more
abbrev pub without_marks : Heard → Heard
without_marks heard = record heard { marked = 0; counts = with_reset heard.counts }

-- a QUIT ends it
abbrev pub has_quit : Heard → Heard
has_quit heard = record heard { is_in = false; has_quit = true }

-- what is kept of a connection's session and commands after an account of it
abbrev pub counted_after : Account → Heard → Heard
counted_after (account.Login name by verdict) heard = judged_so name verdict heard
counted_after account.Marked heard = with_mark heard
counted_after account.Unmarked heard = without_marks heard
counted_after (account.Quit removal) heard = has_quit heard
counted_after account.QuitBeforeLogin heard = has_quit heard
counted_after (account.Retrieved message rule) heard =
    record heard { counts = with_retr message.octets heard.counts }
counted_after (account.Topped message rule) heard =
    record heard { counts = with_top message.octets heard.counts }
counted_after (account.Denied command uid rule) heard =
    record heard { counts = with_denial heard.counts }
counted_after account.NoName heard = heard
counted_after account.Nothing heard = heard
counted_after account.Taken heard = heard
counted_after (account.Ended cause) heard = heard

-- The message that is being sent after an account: one that a RETR or TOP began to send, until all
-- is taken. A line acts, or lacks memory, only once all is taken; another end takes nothing.
abbrev pub sending_after : Account → (sending : Option Uid) → Option Uid
sending_after (account.Retrieved message rule) sending = Some message.uid
sending_after (account.Topped message rule) sending = Some message.uid
sending_after account.Nothing sending = sending
sending_after (account.Ended end.NoMemoryForLine) sending = None
sending_after (account.Ended cause) sending = sending
sending_after account.Taken sending = None
sending_after (account.Login name by verdict) sending = None
sending_after account.NoName sending = None
sending_after account.Marked sending = None
sending_after account.Unmarked sending = None
sending_after (account.Denied command uid rule) sending = None
sending_after (account.Quit removal) sending = None
sending_after account.QuitBeforeLogin sending = None

-- what is kept of a connection after an account of it
abbrev pub heard_after : Account → Heard → Heard
heard_after account heard =
    record (counted_after account heard) { sending = sending_after account heard.sending }

-- ---- who is where

-- a login name is in this maildrop
abbrev pub is_of : (maildrop : List ℕ) → Option LoginName → Bool
is_of maildrop None = false
is_of maildrop (Some name) = bytes_eq name.maildrop maildrop

-- a session goes on in this maildrop
abbrev pub is_in : (maildrop : List ℕ) → Heard → Bool
is_in maildrop heard = heard.is_in && is_of maildrop heard.name

-- it goes on no more
abbrev pub left : (maildrop : List ℕ) → Heard → Heard
left maildrop heard =
    record heard { is_in = if is_in maildrop heard then false else heard.is_in }

-- so it is of a client's session
abbrev pub left_client : (maildrop : List ℕ) → Client → Client
left_client maildrop client = record client { heard = left maildrop client.heard }

-- a client's connection has this number
abbrev pub is_number : (connection : ℕ) → Option ℕ → Bool
is_number connection None = false
is_number connection (Some n) = n == connection

-- a login that is accepted ends the session that is kept in its maildrop
abbrev pub left_at : Verdict → (maildrop : List ℕ) → List Client → List Client
left_at (judged.Accepted rule) maildrop clients = map (left_client maildrop) clients
left_at judged.WrongCredential maildrop clients = clients
left_at judged.ThirdWrongCredential maildrop clients = clients
left_at (judged.Denied rule) maildrop clients = clients
left_at judged.NoSuchMaildrop maildrop clients = clients
left_at judged.InUse maildrop clients = clients
left_at judged.StoreFailed maildrop clients = clients

abbrev pub left_by : Account → List Client → List Client
left_by (account.Login name by verdict) clients = left_at verdict name.maildrop clients
left_by account.NoName clients = clients
left_by (account.Retrieved message rule) clients = clients
left_by (account.Topped message rule) clients = clients
left_by (account.Denied command uid rule) clients = clients
left_by account.Taken clients = clients
left_by account.Marked clients = clients
left_by account.Unmarked clients = clients
left_by (account.Quit removal) clients = clients
left_by account.QuitBeforeLogin clients = clients
left_by account.Nothing clients = clients
left_by (account.Ended cause) clients = clients

-- of a client of whom nothing was heard
abbrev pub unheard : Heard
unheard =
    record {
      name = None;
      is_in = false;
      marked = 0;
      counts = no_counts;
      has_quit = false;
      sending = None;
    }

-- the numbers of a client's link, and of its connection
abbrev pub link_of : Client → ℕ
link_of client = client.link.number

abbrev pub number_of : Client → Option ℕ
number_of client = client.number

-- what is kept of a client's session
abbrev pub heard_of : Client → Heard
heard_of client = client.heard

-- a client's address, as the log writes it
abbrev pub address_of : Client → List ℕ
address_of client = string_bytes client.address

-- a client's connection was opened, and has this number; all else that is kept of the client stays
abbrev pub with_number : (connection : ℕ) → Client → Client
with_number connection client = record client { number = Some connection }

-- so it was for the client at a place, and the others stay
abbrev pub opened_at : (place connection : ℕ) → List Client → List Client
opened_at place connection [] = []
opened_at zero connection (client ∷ clients) = with_number connection client ∷ clients
opened_at (suc place) connection (client ∷ clients) =
    client ∷ opened_at place connection clients

abbrev pub opened_in : Option ℕ → (connection : ℕ) → List Client → List Client
opened_in None connection clients = clients
opened_in (Some place) connection clients = opened_at place connection clients

-- so it was for the client of this link, if there is one
abbrev pub opened_on : (link connection : ℕ) → List Client → List Client
opened_on link connection clients =
    opened_in (position (λ (client : Client). client.link.number == link) clients) connection
    clients

-- the client at a place has heard an account, and the others have not
abbrev pub heard_at : (place : ℕ) → Account → List Client → List Heard
heard_at place account [] = []
heard_at zero account (client ∷ clients) =
    heard_after account client.heard ∷ map heard_of clients
heard_at (suc place) account (client ∷ clients) = client.heard ∷ heard_at place account clients

abbrev pub heard_in : Option ℕ → Account → List Client → List Heard
heard_in None account clients = map heard_of clients
heard_in (Some place) account clients = heard_at place account clients

-- the client of this connection has, if there is one
abbrev pub heard_by : (connection : ℕ) → Account → List Client → List Heard
heard_by connection account clients =
    heard_in (position (λ (client : Client). is_number connection client.number) clients) account
    clients

-- ---- what lines tell

-- the connection's number, where it was opened, and the client's address
abbrev pub numbered_text : (connection : ℕ) → (address : List ℕ) → List ℕ
numbered_text n address = codes "connection=" ++ (decimal n ++ (codes " client=" ++ address))

abbrev pub client_text : (address : List ℕ) → List ℕ
client_text address = codes "client=" ++ address

abbrev pub who_text : Option ℕ → (address : List ℕ) → List ℕ
who_text None address = client_text address
who_text (Some n) address = numbered_text n address

-- the session's clerk and maildrop after a space
abbrev pub behind_name : Option LoginName → List ℕ
behind_name None = []
behind_name (Some name) = codes " " ++ name_text name

-- the session's clerk, maildrop, marked messages and commands
abbrev pub session_text : Option LoginName → (marked : ℕ) → Counts → List ℕ
session_text None marked counts = []
session_text (Some name) marked counts =
    codes " clerk=" ++ name.clerk ++ codes " maildrop=" ++ name.maildrop
    ++ codes " marked=" ++ decimal marked ++ counts_text counts

-- the message of which not all was taken, if there is one
abbrev pub cut_text : (sending : Option Uid) → List ℕ
cut_text None = []
cut_text (Some uid) = codes " cut=" ++ uid_text uid

-- the line of a connection that ended without a QUIT
abbrev pub loss_text : (who session cut cause : List ℕ) → List ℕ
loss_text who session cut cause = codes "event=closed " ++ (who ++ (session ++ (cut ++ cause)))

-- the values of a line that tells of a session
abbrev pub held_text : (connection : ℕ) → LoginName → List ℕ
held_text n name = codes " connection=" ++ (decimal n ++ (codes " clerk=" ++ name.clerk))

abbrev pub holder_text : Option ℕ → Option LoginName → List ℕ
holder_text None name = []
holder_text (Some n) None = []
holder_text (Some n) (Some name) = held_text n name

-- those of the one who is in a maildrop, if one is
abbrev pub holder_of : Option Client → List ℕ
holder_of None = []
holder_of (Some client) = holder_text client.number client.heard.name

-- a client's connection and address, and the line of its loss
abbrev pub who_of : Client → List ℕ
who_of client = who_text client.number (string_bytes client.address)

abbrev pub loss_of : Client → List ℕ
loss_of client =
    loss_text (who_of client)
    (session_text client.heard.name client.heard.marked client.heard.counts)
    (cut_text client.heard.sending) (string_bytes client.cause)

-- the line of a client whose connection was opened
abbrev pub connect_of : Client → List ℕ
connect_of client = codes "event=connect " ++ who_of client

-- the same, of the client that was found and got this number
abbrev pub connected_of : (connection : ℕ) → Option Client → List ℕ
connected_of connection None = []
connected_of connection (Some client) = connect_of (with_number connection client)

-- for how many seconds a login waited, if it was one or more
abbrev pub waited_text : (seconds : ℕ) → List ℕ
waited_text zero = []
waited_text (suc seconds) = codes " waited=" ++ decimal (suc seconds)

-- what stands after an account's line: of a login how long it waited, and of a session's QUIT its
-- commands
abbrev pub behind_account : Account → Client → List ℕ
behind_account (account.Login name by verdict) client = waited_text client.waited
behind_account (account.Quit removal) client = counts_text client.heard.counts
behind_account account.NoName client = []
behind_account (account.Retrieved message rule) client = []
behind_account (account.Topped message rule) client = []
behind_account (account.Denied command uid rule) client = []
behind_account account.Marked client = []
behind_account account.Unmarked client = []
behind_account account.QuitBeforeLogin client = []
behind_account account.Nothing client = []
behind_account account.Taken client = []
behind_account (account.Ended cause) client = []

-- a client's connection and address, its clerk and its maildrop
abbrev pub session_of : Client → List ℕ
session_of client = who_of client ++ behind_name client.heard.name

-- who an account's line is about; a message's line also names the clerk and the maildrop
abbrev pub who_in : Account → Client → List ℕ
who_in (account.Retrieved message rule) client = session_of client
who_in (account.Denied command uid rule) client = session_of client
who_in (account.Topped message rule) client = who_of client
who_in (account.Login name by verdict) client = who_of client
who_in (account.Quit removal) client = who_of client
who_in account.NoName client = who_of client
who_in account.Marked client = who_of client
who_in account.Unmarked client = who_of client
who_in account.QuitBeforeLogin client = who_of client
who_in account.Nothing client = who_of client
who_in account.Taken client = who_of client
who_in (account.Ended cause) client = who_of client

-- the line of an account, or of a loss, of the client that was found
abbrev pub told_of : Account → Option Client → List ℕ
told_of account None = []
told_of account (Some client) =
    account_text (who_in account client) account ++ behind_account account client

-- it is no denial, or one that gets a line
abbrev pub is_new : Account → List Denial → Bool
is_new (account.Denied command uid rule) told =
    gets_a_line (record { command = command; uid = uid; rule = rule }) told
is_new (account.Retrieved message rule) told = true
is_new (account.Topped message rule) told = true
is_new (account.Login name by verdict) told = true
is_new (account.Quit removal) told = true
is_new account.NoName told = true
is_new account.Marked told = true
is_new account.Unmarked told = true
is_new account.QuitBeforeLogin told = true
is_new account.Nothing told = true
is_new account.Taken told = true
is_new (account.Ended cause) told = true

-- an account gets a line if it may have one, and a denial if it is new
abbrev pub gets_told : (reads : Bool) → Account → List Denial → Bool
gets_told reads account told = is_told reads account && is_new account told

-- the same, of the client that was found
abbrev pub is_told_of : (reads : Bool) → Account → Option Client → Bool
is_told_of reads account None = false
is_told_of reads account (Some client) = gets_told reads account client.denials.told.items

abbrev pub lost_of : Option Client → List ℕ
lost_of None = []
lost_of (Some client) = loss_of client
