-- What a clause sees of values that hold references: the octets that these refer to.
use Rattle.std.specs.Prelude.{ℕ, List, map, [], ◌∷◌, Option, Some, None, Result, Ok, Err}
use Rattle.std.specs.Borrow.{Bor}
use Rattle.popline.specs.Cutting as cutting
use Rattle.popline.specs.Commands as commands
use Rattle.popline.specs.Replies as replies
use Rattle.popline.specs.declared.cutter.Cut.{Cut}
use Rattle.popline.specs.declared.cutter.Cut.TheVariants as cut
use Rattle.popline.specs.declared.command.Command.{Command}
use Rattle.popline.specs.declared.command.Command.TheVariants as command
use Rattle.popline.specs.declared.command.Keyword.{Keyword}
use Rattle.popline.specs.declared.command.LineFault.{LineFault}
use Rattle.popline.specs.declared.reply.Reply.{Reply}
use Rattle.popline.specs.declared.reply.Reply.TheVariants as reply

-- a cut with its octets
abbrev pub cut_seen : Cut → cutting.Cut
cut_seen (cut.Line l) = cutting.Line l.now
cut_seen cut.TooLong = cutting.TooLong

-- one line or none, as a list
abbrev pub cuts_seen : Option Cut → List cutting.Cut
cuts_seen None = []
cuts_seen (Some c) = cut_seen c ∷ []

-- a row of the table of keywords, its word in small letters
abbrev pub keyword_row_seen : Bor (List ℕ) × Keyword → List ℕ × Keyword
keyword_row_seen row = (map commands.lowered row.0.now, row.1)

-- a command; LIST and UIDL without a number are `ListAll` and `UidlAll`
abbrev pub command_seen : Command → commands.Command
command_seen command.Capa = commands.Capa
command_seen (command.User name) = commands.User name
command_seen (command.Pass password) = commands.Pass password.now
command_seen (command.Apop name digest) = commands.Apop name digest
command_seen command.Quit = commands.Quit
command_seen command.Stat = commands.Stat
command_seen (command.List None) = commands.ListAll
command_seen (command.List (Some n)) = commands.ListOne n
command_seen (command.Uidl None) = commands.UidlAll
command_seen (command.Uidl (Some n)) = commands.UidlOne n
command_seen (command.Retr n) = commands.Retr n
command_seen (command.Top n lines) = commands.Top n lines
command_seen (command.Dele n) = commands.Dele n
command_seen command.Rset = commands.Rset
command_seen command.Noop = commands.Noop

-- a command, if there is one
abbrev pub found_seen : Option Command → Option commands.Command
found_seen None = None
found_seen (Some c) = Some (command_seen c)

-- a command or a fault
abbrev pub reading_seen : Result Command LineFault → Result commands.Command LineFault
reading_seen (Ok c) = Ok (command_seen c)
reading_seen (Err fault) = Err fault

-- a reply; the code has no value for whole listings and messages, which it puts in parts
abbrev pub reply_seen : Reply → replies.Reply
reply_seen (reply.Greeting number boot host) = replies.Greeting number boot host.now
reply_seen reply.LineTooLong = replies.LineTooLong
reply_seen reply.UnknownCommand = replies.UnknownCommand
reply_seen reply.WrongState = replies.WrongState
reply_seen reply.BadArguments = replies.BadArguments
reply_seen reply.Capabilities = replies.Capabilities
reply_seen reply.SendPass = replies.SendPass
reply_seen reply.LoginFailed = replies.LoginFailed
reply_seen reply.LoginFailedClosing = replies.LoginFailedClosing
reply_seen (reply.DeniedBy rule) = replies.DeniedBy rule
reply_seen reply.NoSuchMaildrop = replies.NoSuchMaildrop
reply_seen reply.InUse = replies.InUse
reply_seen (reply.MaildropHas messages octets) = replies.MaildropHas messages octets
reply_seen (reply.DropListing messages octets) = replies.DropListing messages octets
reply_seen (reply.ScanLine number octets) = replies.ScanLine number octets
reply_seen (reply.UidLine number uid) = replies.UidLine number uid
reply_seen (reply.Marked number) = replies.Marked number
reply_seen reply.Okay = replies.Okay
reply_seen reply.NoSuchMessage = replies.NoSuchMessage
reply_seen (reply.AlreadyMarked number) = replies.AlreadyMarked number
reply_seen reply.Bye = replies.Bye
reply_seen (reply.RemovalDenied rule) = replies.RemovalDenied rule
reply_seen reply.RemovalFailed = replies.RemovalFailed
reply_seen reply.StoreFailed = replies.StoreFailed
