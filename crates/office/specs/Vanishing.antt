-- What vanishes: each message that was ever removed was taken by a QUIT of a clerk who had marked
-- it and was allowed to remove it. Every other one that arrived is in its maildrop.
use Rattle.std.specs.Prelude.{◌≡◌, ℕ, Bool, true, false, ◌&&◌, ◌+◌, ◌==◌, ◌⊎◌, List, [], ◌∷◌, ◌++◌}
use Rattle.std.specs.Prelude.{Some, Result, Ok, find, if◌then◌else◌}
use Rattle.std.specs.List.{list_any}
use Rattle.creds.specs.declared.login_name.LoginName.{LoginName}
use Rattle.popline.specs.Cutting.{Cut}
use Rattle.popline.specs.Commands.{Command, Quit, Dele, Rset}
use Rattle.popline.specs.declared.command.LineFault.{LineFault}
use Rattle.popline.specs.Replies.{Marked}
use Rattle.policy.specs.Policy.{Policy, matches, allows}
use Rattle.policy.specs.declared.rule.Action.TheVariants as to
use Rattle.policy.specs.declared.rule.Rule.{Rule}
use Rattle.vault.specs.Records.{Records, IsSound, class_of, same_message}
use Rattle.vault.specs.declared.record.Message.{Message}
use Rattle.session.specs.View.{at_number, to_remove}
use Rattle.office.specs.History.{Act, Line, is_done, Tag, Done, Says, Entry, in_force, arrivals}
use Rattle.office.specs.Connections.{reading}
use Rattle.office.specs.Sessions.{in_session, marks, view, quits, removed_by, removed_after}
use Rattle.office.specs.Sessions.{removed, present}
use Rattle.office.specs.Told.{told}
use Rattle.office.specs.Laws.{In}

-- ---- who removed it

-- an entry is a DELE of this number on a connection, and was answered that it is marked
pub record IsDele (e : Entry) (c number : ℕ) : Type 0 where
  pub line : Cut
  pub act : e.act ≡ Line c line
  pub read : reading line ≡ Ok (Dele number)
  pub said : e.said ≡ Says (Marked number)

-- a RSET
abbrev pub is_reset : Result Command LineFault → Bool
is_reset (Ok Rset) = true
is_reset _ = false

-- a RSET that is done takes a connection's marks away
abbrev pub resets : Act → Tag → ℕ → Bool
resets (Line n x) tag c = n == c && (is_reset (reading x) && is_done tag)
resets _ tag c = false

-- such a DELE was given in a session of this clerk, which has lived ever since, without a RSET
abbrev pub WasMarked : List Entry → (c : ℕ) → LoginName → (number : ℕ) → Type 0
WasMarked [] c name number = ⊥
WasMarked (e ∷ G) c name number =
    (in_session G c ≡ Some name)
    × (IsDele e c number ⊎ ((resets e.act e.tag c ≡ false) × WasMarked G c name number))

-- the first rule of the policy that is about the clerk's removing this class allows it
pub record LetsRemove (policy : Policy) (name : LoginName) (class : List ℕ) : Type 0 where
  pub rule : Rule
  pub first : find (matches policy.groups name.clerk name.maildrop class to.Remove) policy.rules
      ≡ Some rule
  pub allowed : allows rule.effect ≡ true

-- After this front, an entry removes a message: it is a QUIT that is done, of a clerk in session.
-- The message is one of that session's view, its number is marked by a DELE of that session, and
-- the policy in force lets the clerk remove its class.
pub record IsRemovedBy (B : Records) (G : List Entry) (e : Entry) (m : Message) : Type 0 where
  pub connection : ℕ
  pub line : Cut
  pub act : e.act ≡ Line connection line
  pub quit : reading line ≡ Ok Quit
  pub done : e.tag ≡ Done
  pub name : LoginName
  pub session : in_session G connection ≡ Some name
  pub number : ℕ
  pub seen : at_number (view B G connection) number ≡ Some m
  pub marked : WasMarked G connection name number
  pub allowed : LetsRemove (in_force B G) name m.class

-- an entry of the history removed the message so
abbrev pub WasRemoved : Records → List Entry → Message → Type 0
WasRemoved B [] m = ⊥
WasRemoved B (e ∷ G) m = IsRemovedBy B G e m ⊎ WasRemoved B G m

-- this is so of each message that was ever removed
abbrev pub AllRemovedSo : Records → List Entry → Type 0
AllRemovedSo B G = (m : Message) → In m (removed B G) → WasRemoved B G m

-- the same of every history
abbrev pub RemovedIsAllowed : Type 0
RemovedIsAllowed = (B : Records) (H : List (Act × Tag)) → AllRemovedSo B (told B H)

-- ---- what becomes of a message

-- what a QUIT on this connection removes after a front
abbrev pub taken_on : Records → List Entry → ℕ → List Message
taken_on B G c = removed_by (in_session G c) (λ (name : LoginName). to_remove class_of
    (in_force B G) name (marks G c) (view B G c))

-- how many entries removed a message of that maildrop and unique-id
abbrev pub times_removed : Records → List Entry → Message → ℕ
times_removed B [] m = 0
times_removed B (e ∷ G) m = (if list_any (same_message m)
    (removed_after (quits e.act e.tag) (taken_on B G) []) then 1 else 0) + times_removed B G m

-- the message is in its maildrop, and no entry removed it
pub record IsStillThere (B : Records) (G : List Entry) (m : Message) : Type 0 where
  pub there : In m (present B G m.maildrop)
  pub never : times_removed B G m ≡ 0

-- the message isn't in its maildrop: one entry removed it, and no second one
pub record IsGone (B : Records) (G : List Entry) (m : Message) : Type 0 where
  pub absent : In m (present B G m.maildrop) → ⊥
  pub by_quit : WasRemoved B G m
  pub once : times_removed B G m ≡ 1

-- each message that arrived, with the base or by a deposit, is still there or gone
abbrev pub AllAccountedFor : Records → List Entry → Type 0
AllAccountedFor B G = (m : Message) → In m (arrivals B G) → IsStillThere B G m ⊎ IsGone B G m

-- the same of every history over sound records
abbrev pub NothingElseVanishes : Type 0
NothingElseVanishes = (B : Records) → IsSound B → (H : List (Act × Tag))
    → AllAccountedFor B (told B H)

-- what was gone after some of these acts is gone after all of them
abbrev pub StaysGone : Records → List (Act × Tag) → Type 0
StaysGone B acts = (later before : List (Act × Tag)) (m : Message) → acts ≡ later ++ before
    → In m (arrivals B (told B before)) → IsGone B (told B before) m → IsGone B (told B acts) m

-- the same of every history over sound records
abbrev pub NoneComesBack : Type 0
NoneComesBack = (B : Records) → IsSound B → (acts : List (Act × Tag)) → StaysGone B acts
