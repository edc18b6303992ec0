-- What the policy's decisions on reading come to, which a review shows: a no is never served, and
-- a yes is served.
use Rattle.std.specs.Prelude.{◌≡◌, ℕ, true, false, List, [], ◌∷◌, Some, Ok, ⊤}
use Rattle.mailtext.specs.Text.{lines_of, stuffed_lines}
use Rattle.creds.specs.declared.login_name.LoginName.{LoginName}
use Rattle.popline.specs.Cutting.{Cut}
use Rattle.popline.specs.Commands.{Retr}
use Rattle.popline.specs.Replies.{Reply, Message}
use Rattle.policy.specs.Policy.{decide}
use Rattle.policy.specs.declared.rule.Action.TheVariants as to
use Rattle.vault.specs.Records.{Records, octets_of}
use Rattle.session.specs.View.{at_number, is_marked}
use Rattle.office.specs.History.{Act, Line, Tag, Done, Says, Entry, in_force}
use Rattle.office.specs.Connections.{reading}
use Rattle.office.specs.Sessions.{in_session, marks, view}
use Rattle.office.specs.Served.{IsReplyWith}
use Rattle.office.specs.Told.{told}
use Rattle.vault.specs.declared.record.Message as store

-- after this front, an entry's reply to a connection's line has octets of this message
pub record Reads (B : Records) (G : List Entry) (e : Entry) (c : ℕ) (m : store.Message)
    : Type 0 where
  pub line : Cut
  pub act : e.act ≡ Line c line
  pub reply : Reply
  pub said : e.said ≡ Says reply
  pub number : ℕ
  pub seen : at_number (view B G c) number ≡ Some m
  pub octets : IsReplyWith (reading line) number m reply

-- after this front, an entry is a RETR, and is done, of an unmarked number, which is this message's
pub record Asks (B : Records) (G : List Entry) (e : Entry) (c : ℕ) (m : store.Message)
    : Type 0 where
  pub line : Cut
  pub act : e.act ≡ Line c line
  pub done : e.tag ≡ Done
  pub number : ℕ
  pub read : reading line ≡ Ok (Retr number)
  pub seen : at_number (view B G c) number ≡ Some m
  pub unmarked : is_marked (marks G c) number ≡ false

-- What the policy in force at an entry decides on a clerk's reading of a class is done: if it says
-- no, the reply has no octets of a message of that class; if it says yes, a RETR gets them.
pub record IsEnforced (B : Records) (G : List Entry) (e : Entry) : Type 0 where
  pub no : (c : ℕ) (name : LoginName) (m : store.Message) → in_session G c ≡ Some name
      → (decide (in_force B G) name.clerk name.maildrop m.class to.Read).allowed ≡ false
      → Reads B G e c m → ⊥
  pub yes : (c : ℕ) (name : LoginName) (m : store.Message) → in_session G c ≡ Some name
      → (decide (in_force B G) name.clerk name.maildrop m.class to.Read).allowed ≡ true
      → Asks B G e c m → e.said ≡ Says (Message (octets_of m) (stuffed_lines (lines_of m.text)))

-- the same of every entry of a history
abbrev pub AllEnforced : Records → List Entry → Type 0
AllEnforced B [] = ⊤
AllEnforced B (e ∷ G) = IsEnforced B G e × AllEnforced B G

-- the same of every history
abbrev pub DecisionsAreEnforced : Type 0
DecisionsAreEnforced = (B : Records) (H : List (Act × Tag)) → AllEnforced B (told B H)
