-- A session over a store: the reply to a line, the session after it, and what the store then holds
-- (RFC 1939, 5 and 6).
use Rattle.std.specs.Prelude.{◌≡◌, ℕ, Bool, true, false, ◌<◌, ◌^◌, List, length, take, map}
use Rattle.std.specs.Prelude.{sum_by, Option, Some, None, Result, Ok}
use Rattle.mailtext.specs.MailText.{IsMailText}
use Rattle.mailtext.specs.Text.{lines_of, stuffed_lines, top_part}
use Rattle.creds.specs.declared.login_name.LoginName.{LoginName}
use Rattle.popline.specs.Cutting.{Cut}
use Rattle.popline.specs.Commands.{Command, Capa, Quit, Retr, Top}
use Rattle.popline.specs.declared.command.LineFault.{LineFault}
use Rattle.popline.specs.Replies.{Reply, NoSuchMessage, AlreadyMarked, DeniedBy, StoreFailed}
use Rattle.popline.specs.Replies.{Message, TopPart}
use Rattle.policy.specs.Policy.{Policy}
use Rattle.vault.specs.Changes.{Contents, head_of, with_messages, without_keys}
use Rattle.vault.specs.Calls.{text_under}
use Rattle.vault.specs.declared.record.Keyed.{Keyed}
use Rattle.session.specs.declared.pick.Pick.{Pick}
use Rattle.session.specs.declared.pick.Pick.TheVariants.{NoSuch, Deleted, Denied}
use Rattle.session.specs.Session.{Session}
use Rattle.session.specs.Session as head
use Rattle.session.specs.View.{is_marked, to_remove}
use Rattle.office.specs.History.{Says, Tag}
use Rattle.office.specs.History as history
use Rattle.office.specs.Connections.{is_quit}
use Rattle.office.specs.Sessions.{marks_after_line}
use Rattle.office.specs.Replying.{InTransaction, session_says, reply_to, reply_to_reading}
use Rattle.office.specs.Laws.{In}
use Rattle.office.specs.Output.{Output, Owes, OwesReply}
use Rattle.office.specs.declared.login_state.LineOutcome.{LineOutcome}
use Rattle.office.specs.declared.login_state.LineOutcome.TheVariants as outcome
pub use Rattle.office.specs.Replying.{Transaction, transaction_asks}

-- ---- a session's messages

-- a session's heads are those of messages that its maildrop in the store has, and the sum of their
-- octets is below 2^64
pub record LiesIn (c : Contents) (s : Session) (kept : List Keyed) : Type 0 where
  pub heads : s.view ≡ map head_of kept
  pub there : (x : Keyed) → In x kept → In x c.messages
  pub within : (x : Keyed) → In x kept → x.message.maildrop ≡ s.name.maildrop
  pub fits : sum_by head.octets_of s.view < 2 ^ 64

-- a session with the messages under its heads
abbrev pub transaction_of : Session → List Keyed → Transaction
transaction_of s kept = record {
  name = s.name;
  removals = s.removals;
  marks = s.marks;
  view = map
      (λ (x : Keyed). x.message) kept;
}

-- the reply of a session with these messages to a command
abbrev pub transaction_told : Policy → Session → List Keyed → Command → Reply
transaction_told p s kept command = session_says p (transaction_of s kept) command

-- under a key lies a message text of so many octets
pub record HasText (c : Contents) (key octets : ℕ) : Type 0 where
  pub size : length (text_under key c.messages) ≡ octets
  pub form : IsMailText (text_under key c.messages)

-- the first so many octets are those of the text
abbrev pub Begins : ℕ → (octets text : List ℕ) → Type 0
Begins n octets text = take n octets ≡ take n text

-- the reply to a number under which no message may be read or marked
abbrev pub refused_pick : ℕ → Pick → Reply
refused_pick n NoSuch = NoSuchMessage
refused_pick n Deleted = AlreadyMarked n
refused_pick n (Denied rule) = DeniedBy rule

-- RETR of a number, or TOP of so many lines
abbrev pub sending : ℕ → (lines : Option ℕ) → Command
sending n None = Retr n
sending n (Some k) = Top n k

-- the reply that sends a text, or the top of it with so many lines
abbrev pub text_reply : (lines : Option ℕ) → (text : List ℕ) → Reply
text_reply None text = Message (length text) (stuffed_lines (lines_of text))
text_reply (Some k) text = TopPart (stuffed_lines (top_part (lines_of text) k))

-- ---- a line of a session

-- the tag of the event in which a line acted
abbrev pub tag_of : LineOutcome → Tag
tag_of outcome.Done = history.Done
tag_of outcome.Failed = history.Failed

-- the reply to what a line reads as, if the store fails or not
abbrev pub transaction_answered : LineOutcome → Policy → Transaction → Result Command LineFault
    → Reply
transaction_answered w p v r = reply_to_reading (InTransaction p v) r (tag_of w)

-- the same, if it doesn't
abbrev pub transaction_said : Policy → Transaction → Result Command LineFault → Reply
transaction_said p v r = transaction_answered outcome.Done p v r

-- the reply to a line
abbrev pub transaction_reply : LineOutcome → Policy → Transaction → Cut → Reply
transaction_reply w p v x = reply_to (InTransaction p v) x (tag_of w)

-- ---- after it

-- a session goes on, the same but for its marks: a number is marked if the reply leaves it so
pub record GoesOn (reply : Reply) (s new : Session) : Type 0 where
  pub name : new.name ≡ s.name
  pub removals : new.removals ≡ s.removals
  pub view : new.view ≡ s.view
  pub marks : (n : ℕ) → is_marked new.marks n ≡ is_marked (marks_after_line (Says reply) s.marks) n

-- the login name in force after a line of a session: only an answered CAPA leaves it
abbrev pub transaction_user : LineOutcome → Result Command LineFault → Option LoginName
    → Option LoginName
transaction_user outcome.Done (Ok Capa) user = user
transaction_user _ r user = None

-- the keys of what a QUIT removes
abbrev pub keys_to_remove : Policy → Session → List ℕ
keys_to_remove p s = map head.key_of (to_remove head.class_of p s.name s.marks s.view)

-- the contents without what a QUIT removes
abbrev pub without_marked : Policy → Session → Contents → Contents
without_marked p s c =
    with_messages (without_keys s.name.maildrop (keys_to_remove p s) c.messages) c

-- what the store holds after a session's line: a QUIT that is Done removes messages
abbrev pub held_after_line : LineOutcome → Policy → Session → Result Command LineFault → Contents
    → Contents
held_after_line outcome.Done p s (Ok Quit) c = without_marked p s c
held_after_line _ p s r c = c

-- the session that is left after a line: a QUIT ends it
abbrev pub session_if : (quits : Bool) → Session → Option Session
session_if true s = None
session_if false s = Some s

-- the same, by what the line reads as
abbrev pub session_left : Result Command LineFault → Session → Option Session
session_left r s = session_if (is_quit r) s

-- What came of a line that reads so and got this reply: the reply is owed, the session goes on, and
-- the store holds what the line leaves. If the store failed, the line is one that asks it, and
-- the fault was counted.
pub record IsAnsweredBy (After : Contents
    → Type 0) (grown : Bool) (c : Contents) (p : Policy) (s new : Session) (kept : List Keyed)
    (after : Output) (r : Result Command LineFault) (w : LineOutcome) (reply : Reply) : Type 0 where
  pub owed : OwesReply c (session_left r new) after reply
  pub session : GoesOn reply s new
  pub held : After (held_after_line w p s r c)
  pub may : w ≡ outcome.Failed → transaction_asks p (transaction_of s kept) r ≡ true
  pub cause : w ≡ outcome.Failed → grown ≡ true

-- the same, of what isn't too long: the reply is that to what it reads as
abbrev pub IsAnswered : (After : Contents → Type 0) → (grown : Bool) → Contents → Policy
    → (s new : Session) → List Keyed → Output → Result Command LineFault → LineOutcome → Type 0
IsAnswered After grown c p s new kept after r w = IsAnsweredBy After grown c p s new kept after r w
    (transaction_answered w p (transaction_of s kept) r)

-- What came of a message that was to be sent: it is owed; or the reply that the store failed is,
-- and the fault was counted.
abbrev pub ServedOr : LineOutcome → (grown : Bool) → Contents → Session → (octets : List ℕ) → Output
    → Type 0
ServedOr outcome.Done grown c s octets o = Owes c (Some s) o octets
ServedOr outcome.Failed grown c s octets o = OwesReply c (Some s) o StoreFailed × (grown ≡ true)

-- the same, over a store that stays as it was
pub record IsServed (After : Contents
    → Type 0) (grown : Bool) (c : Contents) (s : Session) (octets : List ℕ) (o : Output)
    (w : LineOutcome) : Type 0 where
  pub held : After c
  pub owed : ServedOr w grown c s octets o
