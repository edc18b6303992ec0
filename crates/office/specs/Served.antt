-- What is served: each reply with a message's octets answers a line before which the policy in
-- force let that clerk read that message's class.
use Rattle.std.specs.Prelude.{◌≡◌, ℕ, true, false, List, [], ◌∷◌, Some, Result, Ok, ⊤}
use Rattle.mailtext.specs.Text.{lines_of, stuffed_lines, top_part}
use Rattle.creds.specs.declared.login_name.LoginName.{LoginName}
use Rattle.popline.specs.Commands.{Command, Retr, Top}
use Rattle.popline.specs.declared.command.LineFault.{LineFault}
use Rattle.popline.specs.Replies.{Reply, Message, TopPart}
use Rattle.vault.specs.Records.{Records, octets_of}
use Rattle.session.specs.View.{at_number, is_marked, may_read}
use Rattle.office.specs.History.{Act, Line, Tag, Said, Says, Entry, in_force}
use Rattle.office.specs.Connections.{reading, has_message}
use Rattle.office.specs.Sessions.{in_session, marks, view}
use Rattle.office.specs.Told.{told}
use Rattle.vault.specs.declared.record.Message as store

-- the reply to a RETR of this number has this message's octets, the reply to a TOP its first ones;
-- no other command's reply has any
abbrev pub IsReplyWith : Result Command LineFault → (number : ℕ) → store.Message → Reply → Type 0
IsReplyWith (Ok (Retr n)) number m reply =
    (n ≡ number) × (reply ≡ Message (octets_of m) (stuffed_lines (lines_of m.text)))
IsReplyWith (Ok (Top n k)) number m reply =
    (n ≡ number) × (reply ≡ TopPart (stuffed_lines (top_part (lines_of m.text) k)))
IsReplyWith _ number m reply = ⊥

-- After this front, a line of a clerk in session was answered by the octets of one message of that
-- session's view. It isn't marked, and the policy in force lets the clerk read its class.
pub record IsServed (B : Records) (G : List Entry) (c : ℕ) (r : Result Command LineFault)
    (reply : Reply) : Type 0 where
  pub name : LoginName
  pub session : in_session G c ≡ Some name
  pub number : ℕ
  pub message : store.Message
  pub seen : at_number (view B G c) number ≡ Some message
  pub unmarked : is_marked (marks G c) number ≡ false
  pub allowed : may_read (in_force B G) name message.class ≡ true
  pub octets : IsReplyWith r number message reply

-- what was said to an act after this front has no message's octets, or the line was served so
abbrev pub IsServedTo : Records → (front : List Entry) → Act → Said → Type 0
IsServedTo B G (Line c x) (Says reply) =
    has_message (Says reply) ≡ true → IsServed B G c (reading x) reply
IsServedTo B G _ said = has_message said ≡ false

-- the same of every entry of a history
abbrev pub AllServed : Records → List Entry → Type 0
AllServed B [] = ⊤
AllServed B (e ∷ G) = IsServedTo B G e.act e.said × AllServed B G

-- the same of every history
abbrev pub ServedIsAllowed : Type 0
ServedIsAllowed = (B : Records) (H : List (Act × Tag)) → AllServed B (told B H)
