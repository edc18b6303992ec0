-- The text of the log's lines for an account: what the office judged of a client's line.
-- `who` are the connection and the client's address, as each line has them.
use Rattle.std.specs.Prelude.{ℕ, Bool, true, false, ◌==◌, List, [], ◌∷◌, ◌++◌}
use Rattle.std.specs.Prelude.{Option, Some, None, codes, if◌then◌else◌}
use Rattle.std.specs.List.{flat_map}
use Rattle.std.specs.Fmt.{decimal}
use Rattle.creds.specs.Uid.{uid_text}
use Rattle.creds.specs.declared.uid.Uid.{Uid}
use Rattle.creds.specs.declared.login_name.LoginName.{LoginName}
use Rattle.office.specs.declared.account.Account.{Account}
use Rattle.office.specs.declared.account.Account.TheVariants as account
use Rattle.office.specs.declared.account.End.TheVariants as end
use Rattle.office.specs.declared.account.MessageCommand.{MessageCommand}
use Rattle.office.specs.declared.account.MessageCommand.TheVariants as to
use Rattle.office.specs.declared.account.Removal.{Removal}
use Rattle.office.specs.declared.answer.MessageRow.{MessageRow}
use Rattle.office.specs.declared.account.Way.{Way}
use Rattle.office.specs.declared.account.Way.TheVariants as way
use Rattle.office.specs.declared.account.Verdict.{Verdict}
use Rattle.office.specs.declared.account.Verdict.TheVariants as judged
use Rattle.session.specs.declared.removed.RemovedMessage.{RemovedMessage}
use Rattle.serving.specs.declared.wire.Refusal.{Refusal}
use Rattle.serving.specs.declared.wire.Refusal.TheVariants as refused

-- the values of a login name
abbrev pub name_text : LoginName → List ℕ
name_text name = codes "clerk=" ++ name.clerk ++ codes " maildrop=" ++ name.maildrop

-- by which command a login came
abbrev pub way_text : Way → List ℕ
way_text way.Pass = codes "pass"
way_text way.Apop = codes "apop"

-- how a login was judged: the reply's own words
abbrev pub verdict_text : Verdict → List ℕ
verdict_text (judged.Accepted rule) = codes "answer=accepted rule=" ++ rule
verdict_text judged.WrongCredential = codes "answer=refused reason=\"login failed\""
verdict_text judged.ThirdWrongCredential = codes "answer=refused reason=\"login failed, closing\""
verdict_text (judged.Denied rule) =
    codes "answer=refused reason=\"denied by rule " ++ rule ++ codes "\""
verdict_text judged.NoSuchMaildrop = codes "answer=refused reason=\"no such maildrop\""
verdict_text judged.InUse = codes "answer=refused reason=\"[IN-USE] maildrop is in use\""
verdict_text judged.StoreFailed = codes "answer=refused reason=\"store failed\""

-- the farewell, by whether the removal is done and which rule kept a message
abbrev pub farewell_text : (is_done : Bool) → (denied : Option (List ℕ)) → List ℕ
farewell_text true None = codes "answer=\"bye\""
farewell_text true (Some rule) =
    codes "answer=\"some deleted messages not removed, denied by rule " ++ rule ++ codes "\""
farewell_text false denied = codes "answer=\"some deleted messages not removed\""

-- the line of a login that was judged
abbrev pub login_text : (who : List ℕ) → LoginName → Way → Verdict → List ℕ
login_text who name by verdict =
    codes "event=login " ++ who ++ codes " " ++ name_text name
    ++ codes " by=" ++ way_text by ++ codes " " ++ verdict_text verdict

-- the line of a session's QUIT
abbrev pub quit_text : (who : List ℕ) → Removal → List ℕ
quit_text who removal =
    codes "event=quit " ++ who ++ codes " " ++ name_text removal.name
    ++ codes " marked=" ++ decimal removal.marked
    ++ codes " " ++ farewell_text removal.is_done removal.denied

-- a command that names a message
abbrev pub command_text : MessageCommand → List ℕ
command_text to.Dele = codes "dele"
command_text to.Retr = codes "retr"
command_text to.Top = codes "top"

-- the line of a message that a RETR began to send, by which rule
abbrev pub retr_text : (who : List ℕ) → MessageRow → (rule : List ℕ) → List ℕ
retr_text who message rule =
    codes "event=retr " ++ who ++ codes " uid=" ++ uid_text message.uid
    ++ codes " octets=" ++ decimal message.octets ++ codes " rule=" ++ rule

-- the line of a command that a rule denied for a message
abbrev pub denied_text : (who : List ℕ) → MessageCommand → Uid → (rule : List ℕ) → List ℕ
denied_text who command uid rule =
    codes "event=denied " ++ who ++ codes " command=" ++ command_text command
    ++ codes " uid=" ++ uid_text uid ++ codes " rule=" ++ rule

-- an account's line; without text for one that has none
abbrev pub account_text : (who : List ℕ) → Account → List ℕ
account_text who (account.Login name by verdict) = login_text who name by verdict
account_text who account.NoName =
    codes "event=login " ++ who ++ codes " answer=refused reason=\"bad arguments\""
account_text who (account.Quit removal) = quit_text who removal
account_text who account.QuitBeforeLogin = codes "event=quit " ++ who ++ codes " answer=\"bye\""
account_text who (account.Retrieved message rule) = retr_text who message rule
account_text who (account.Denied command uid rule) = denied_text who command uid rule
account_text who account.Nothing = []
account_text who account.Marked = []
account_text who account.Unmarked = []
account_text who account.Taken = []
account_text who (account.Topped message rule) = []
account_text who (account.Ended cause) = []

-- whether an account may have a line; that of a RETR has one if each RETR is to have one
abbrev pub is_told : (reads : Bool) → Account → Bool
is_told reads (account.Login name by verdict) = true
is_told reads account.NoName = true
is_told reads (account.Quit removal) = true
is_told reads account.QuitBeforeLogin = true
is_told reads (account.Denied command uid rule) = true
is_told reads (account.Retrieved message rule) = reads
is_told reads account.Nothing = false
is_told reads account.Marked = false
is_told reads account.Unmarked = false
is_told reads account.Taken = false
is_told reads (account.Topped message rule) = false
is_told reads (account.Ended cause) = false

-- why a connection ended, as the line of its end says it, if the account says so
abbrev pub cause_text : Account → List ℕ
cause_text (account.Ended end.Gone) = codes " cause=gone"
cause_text (account.Ended end.NoMemory) = codes " cause=\"out of memory\""
cause_text (account.Ended end.NoMemoryForLine) = codes " cause=\"out of memory\""
cause_text (account.Ended end.StoreFailed) = codes " cause=\"store failed\""
cause_text (account.Ended end.SessionEnded) = codes " cause=\"session ended\""
cause_text (account.Ended end.Idle) = codes " cause=idle"
cause_text (account.Ended end.TooLate) = codes " cause=\"too late to log in\""
cause_text (account.Ended end.FullHouse) =
    codes " cause=\"no login while all places were taken\""
cause_text (account.Login name by judged.ThirdWrongCredential) =
    codes " cause=\"login failed, closing\""
cause_text (account.Login name by (judged.Accepted rule)) = []
cause_text (account.Login name by judged.WrongCredential) = []
cause_text (account.Login name by (judged.Denied rule)) = []
cause_text (account.Login name by judged.NoSuchMaildrop) = []
cause_text (account.Login name by judged.InUse) = []
cause_text (account.Login name by judged.StoreFailed) = []
cause_text account.NoName = []
cause_text (account.Retrieved message rule) = []
cause_text (account.Topped message rule) = []
cause_text (account.Denied command uid rule) = []
cause_text (account.Quit removal) = []
cause_text account.QuitBeforeLogin = []
cause_text account.Nothing = []
cause_text account.Marked = []
cause_text account.Unmarked = []
cause_text account.Taken = []

-- why a link was refused for its first line
abbrev pub refusal_text : Refusal → List ℕ
refusal_text refused.NoLine = codes " cause=\"no PROXY line\""
refusal_text refused.TooLate = codes " cause=\"no PROXY line in time\""
refusal_text refused.NoMemory = codes " cause=\"out of memory\""

-- ---- what a QUIT removed

-- what an account says that a QUIT removed: nothing if the store failed
abbrev pub removed_by : Account → List RemovedMessage
removed_by (account.Quit removal) = if removal.is_done then removal.removed else []
removed_by _ = []

-- how many messages are on a line at most
abbrev pub most_on_a_line : ℕ
most_on_a_line = 32

-- the unique-id of a message that was removed, and the rule that let the clerk remove it
abbrev pub message_text : RemovedMessage → List ℕ
message_text message = uid_text message.uid ++ codes "=" ++ message.rule

-- one after a comma
abbrev pub behind_comma : RemovedMessage → List ℕ
behind_comma message = codes "," ++ message_text message

-- messages that were removed, with commas between them
abbrev pub messages_text : List RemovedMessage → List ℕ
messages_text [] = []
messages_text (message ∷ messages) = message_text message ++ flat_map behind_comma messages

-- what stands before the message at a place of a line
abbrev pub comma_at : ℕ → List ℕ
comma_at n = if n == 0 then [] else codes ","

-- the message at a place of a line, if there is one
abbrev pub message_words : ℕ → Option RemovedMessage → List ℕ
message_words n None = []
message_words n (Some message) = comma_at n ++ message_text message

-- the line of messages that a session's QUIT removed
abbrev pub removed_text : (connection : ℕ) → LoginName → List RemovedMessage → List ℕ
removed_text connection name messages =
    codes "event=removed connection=" ++ decimal connection ++ codes " " ++ name_text name
    ++ codes " uids=" ++ messages_text messages
