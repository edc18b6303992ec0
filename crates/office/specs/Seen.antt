-- The events, commands, answers and outcomes of the code, as clauses see them.
use Rattle.std.specs.Prelude.{ℕ, map}
use Rattle.creds.specs.declared.login_name.LoginName.{LoginName}
use Rattle.creds.specs.declared.uid.Uid.{Uid}
use Rattle.office.specs.Events as events
use Rattle.office.specs.Answers as answers
use Rattle.office.specs.Outcomes as outcomes
use Rattle.office.specs.Events.{Trace, given}
use Rattle.office.specs.declared.command.AdminCommand.{AdminCommand}
use Rattle.office.specs.declared.command.AdminCommand.TheVariants as command
use Rattle.office.specs.declared.answer.Answer.{Answer}
use Rattle.office.specs.declared.answer.Answer.TheVariants as answer
use Rattle.office.specs.declared.answer.MessageRow.{MessageRow}
use Rattle.office.specs.declared.answer.SessionRow.{SessionRow}
use Rattle.office.specs.declared.event.Event.{Event}
use Rattle.office.specs.declared.event.Event.TheVariants as event
use Rattle.office.specs.declared.event.Outcome.{Outcome}
use Rattle.office.specs.declared.event.Outcome.TheVariants as outcome
use Rattle.office.specs.declared.event.Reason.{Reason}
use Rattle.office.specs.declared.event.Reason.TheVariants as reason

-- a command
abbrev pub command_seen : AdminCommand → answers.AdminCommand
command_seen command.ListMaildrops = answers.ListMaildrops
command_seen (command.ShowMaildrop d) = answers.ShowMaildrop d
command_seen (command.AddMaildrop d) = answers.AddMaildrop d
command_seen (command.DropMaildrop d) = answers.DropMaildrop d
command_seen command.ListClerks = answers.ListClerks
command_seen (command.ShowClerk name) = answers.ShowClerk name
command_seen (command.PutClerk name credential) = answers.PutClerk name credential
command_seen (command.DropClerk name) = answers.DropClerk name
command_seen command.ShowPolicy = answers.ShowPolicy
command_seen (command.SetPolicy policy) = answers.SetPolicy policy
command_seen command.ListGroups = answers.ListGroups
command_seen command.ListSessions = answers.ListSessions
command_seen (command.EndSession c) = answers.EndSession c
command_seen (command.Explain clerk d class action) = answers.Explain clerk d class action

-- an event, whose octets are lent
abbrev pub event_seen : Event → events.Event
event_seen event.Connect = events.Connect
event_seen (event.Bytes c piece) = events.Bytes c piece.now
event_seen (event.Took c octets) = events.Took c octets
event_seen (event.Gone c) = events.Gone c
event_seen (event.Tick now) = events.Tick now
event_seen (event.Deposit d class id text) = events.Deposit d.now class.now id.now text.now
event_seen (event.Admin command) = events.Admin (command_seen command.now)
event_seen (event.Restart boot) = events.Restart boot

-- a message's unique-id and octets
abbrev pub row_seen : MessageRow → Uid × ℕ
row_seen row = (row.uid, row.octets)

-- a connection with its session
abbrev pub session_seen : SessionRow → ℕ × LoginName
session_seen row = (row.number, row.name)

-- an answer
abbrev pub answer_seen : Answer → answers.Answer
answer_seen (answer.New uid) = answers.New uid
answer_seen (answer.Known uid) = answers.Known uid
answer_seen answer.EmptyText = answers.EmptyText
answer_seen answer.TextTooLarge = answers.TextTooLarge
answer_seen answer.NoSuchMaildrop = answers.NoSuchMaildrop
answer_seen answer.Conflict = answers.Conflict
answer_seen answer.Full = answers.Full
answer_seen (answer.Maildrops totals) = answers.Maildrops totals
answer_seen (answer.Messages rows) = answers.Messages (map row_seen rows)
answer_seen answer.Added = answers.Added
answer_seen answer.WasThere = answers.WasThere
answer_seen answer.Dropped = answers.Dropped
answer_seen answer.MaildropInUse = answers.MaildropInUse
answer_seen answer.NotEmpty = answers.NotEmpty
answer_seen (answer.Clerks rows) = answers.Clerks rows
answer_seen answer.ByApopSecret = answers.ByApopSecret
answer_seen answer.ByPassword = answers.ByPassword
answer_seen answer.NoSuchClerk = answers.NoSuchClerk
answer_seen answer.Replaced = answers.Replaced
answer_seen (answer.PolicyIs policy) = answers.PolicyIs policy
answer_seen (answer.RuleCount rules) = answers.RuleCount rules
answer_seen (answer.GroupsOf policy) = answers.GroupsOf policy
answer_seen (answer.Sessions rows) = answers.Sessions (map session_seen rows)
answer_seen answer.Ended = answers.Ended
answer_seen answer.NoSuchSession = answers.NoSuchSession
answer_seen (answer.Explained decision) = answers.Explained decision

-- a reason
abbrev pub reason_seen : Reason → outcomes.Reason
reason_seen reason.NoSuchConnection = outcomes.NoSuchConnection
reason_seen reason.NotReady = outcomes.NotReady
reason_seen reason.PieceTooLong = outcomes.PieceTooLong
reason_seen reason.TooManyConnections = outcomes.TooManyConnections

-- an outcome
abbrev pub outcome_seen : Outcome → outcomes.Outcome
outcome_seen (outcome.Opened c) = outcomes.Opened c
outcome_seen outcome.Done = outcomes.Done
outcome_seen outcome.Failed = outcomes.Failed
outcome_seen outcome.NoMemory = outcomes.NoMemory
outcome_seen (outcome.Ignored reason) = outcomes.Ignored (reason_seen reason)
outcome_seen (outcome.Answered answer) = outcomes.Answered (answer_seen answer)

-- a trace with one more event and its outcome's tag
abbrev pub followed_by : Trace → events.Event → Outcome → Trace
followed_by T e o = given T e (outcomes.event_tag_of (outcome_seen o))
