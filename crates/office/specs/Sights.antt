-- Hidden mail leaves no trace: what a connection is sent depends on everything else only through
-- what it meets at its own lines, and of the mail only through what its logins find.
use Rattle.std.specs.Prelude.{◌≡◌, ℕ, Bool, true, false, not, ◌&&◌, ◌==◌, List, [], ◌∷◌, ◌++◌}
use Rattle.std.specs.Prelude.{filter, Option, Some, is_some, ⊤, if◌then◌else◌}
use Rattle.std.specs.Option.{option_map}
use Rattle.std.specs.Str.{bytes_eq}
use Rattle.creds.specs.declared.credential.Credential.{Credential}
use Rattle.creds.specs.declared.login_name.LoginName.{LoginName}
use Rattle.popline.specs.Cutting.{Cut}
use Rattle.policy.specs.Policy.{Policy}
use Rattle.vault.specs.Records.{Records, class_of}
use Rattle.session.specs.View.{visible, may_read}
use Rattle.session.specs.declared.removals.Removals.{Removals}
use Rattle.office.specs.History.{Act, Open, Line, Deposit, Tag, Said, Entry, in_force, credential}
use Rattle.office.specs.History.{exists, maildrops}
use Rattle.office.specs.Connections.{setting, opens, user, reading, sent}
use Rattle.office.specs.Sessions.{logs_in, login_by, ends_session, holder, view_after, present}
use Rattle.office.specs.Replying.{login_asked}
use Rattle.office.specs.Told.{told}
use Rattle.vault.specs.declared.record.Message as store

-- what a login of a name meets: its clerk's credential, and whether its maildrop is there, and
-- locked
pub record Door : Type 0 where
  pub credential : Option Credential
  pub exists : Bool
  pub locked : Bool

-- the same, after a front
abbrev pub door : Records → List Entry → LoginName → Door
door B G name = record {
  credential = credential B G name.clerk;
  exists = exists B G name.maildrop;
  locked = is_some (holder G name.maildrop);
}

-- What a connection meets: its opening; each of its lines with its tag, the policy in force, the
-- setting, the door if the line asks to log in, and what it finds if that is accepted; and the end
-- of its session by another act.
pub data Sight : Type 0 where
  Opened : (setting : ℕ × List ℕ × Removals) → Sight
  Gave : (line : Cut) (tag : Tag) (policy : Policy) (setting : ℕ × List ℕ × Removals)
      (door : Option Door) (found : List store.Message) → Sight
  Ended : Sight

-- what a login finds that was accepted, of this name: what the policy lets its clerk read; nothing
-- otherwise
abbrev pub found : Records → List Entry → Option LoginName → List store.Message
found B G logged_in = view_after logged_in (λ (name : LoginName). visible class_of
    (in_force B G) name (present B G name.maildrop)) []

-- what a connection meets at a line after a front
abbrev pub sight : Records → List Entry → (c : ℕ) → Cut → Tag → Said → Sight
sight B G c x t said = Gave x t (in_force B G) (setting G)
    (option_map (door B G) (login_asked (reading x) (user G c)))
    (found B G (logs_in (reading x) said (user G c)))

-- what it has met after an act: an opening begins anew, and only its own lines and what ends its
-- session add to it
abbrev pub sights_after : Records → List Entry → (c : ℕ) → Act → Tag → Said → List Sight
    → List Sight
sights_after B G c (Open n) t said before =
    if n == c then Opened (setting G) ∷ [] else before
sights_after B G c (Line n x) t said before =
    if n == c then sight B G c x t said ∷ before else before
sights_after B G c act t said before =
    if ends_session act t said c then Ended ∷ before else before

-- all that a connection has met since its opening, the newest first
abbrev pub sights : Records → List Entry → ℕ → List Sight
sights B [] c = []
sights B (e ∷ G) c = sights_after B G c e.act e.tag e.said (sights B G c)

-- wherever a connection meets the same as this one, it is sent the same
abbrev pub IsSentBySight : Records → List Entry → Type 0
IsSentBySight B G = (A : Records) (H : List (Act × Tag)) (c : ℕ)
    → sights B G c ≡ sights A (told A H) c → sent G c ≡ sent (told A H) c

-- the same of every history
abbrev pub HiddenMailLeavesNoTrace : Type 0
HiddenMailLeavesNoTrace = (B : Records) (H : List (Act × Tag)) → IsSentBySight B (told B H)

-- ---- a deposit that is hidden

-- the message is of this class in this maildrop
abbrev pub is_of : (maildrop class : List ℕ) → store.Message → Bool
is_of maildrop class m = bytes_eq m.maildrop maildrop && bytes_eq m.class class

-- the messages that aren't
abbrev pub others : (maildrop class : List ℕ) → List store.Message → List store.Message
others maildrop class ms = filter (λ m. not (is_of maildrop class m)) ms

-- but for the messages of this class in this maildrop, the same messages are there after two
-- histories, and the same maildrops
pub record SameOtherwise (B : Records) (maildrop class : List ℕ) (G K : List Entry)
    : Type 0 where
  pub messages : (d : List ℕ) → others maildrop class (present B G d)
      ≡ others maildrop class (present B K d)
  pub maildrops : maildrops B G ≡ maildrops B K

-- this is so after these acts and after those, and after each later act, the same in both
abbrev pub AlwaysSameOtherwise : Records → (maildrop class : List ℕ)
    → (later these those : List (Act × Tag)) → Type 0
AlwaysSameOtherwise B d class [] these those =
    SameOtherwise B d class (told B these) (told B those)
AlwaysSameOtherwise B d class (x ∷ later) these those =
    SameOtherwise B d class (told B (x ∷ later ++ these)) (told B (x ∷ later ++ those))
    × AlwaysSameOtherwise B d class later these those

-- nothing is asked of what came before a connection's opening
abbrev pub UnlessOpens : (opens : Bool) → Type 0 → Type 0
UnlessOpens true A = ⊤
UnlessOpens false A = A

-- whenever a connection, since its opening, logged in to this maildrop, the policy in force didn't
-- let its clerk read this class there
abbrev pub IsHiddenFrom : Records → (maildrop class : List ℕ) → ℕ → List Entry → Type 0
IsHiddenFrom B d class c [] = ⊤
IsHiddenFrom B d class c (e ∷ G) = UnlessOpens (opens e.act c)
    (((name : LoginName) → login_by e.act e.said c (user G c) ≡ Some name → name.maildrop ≡ d
    → may_read (in_force B G) name class ≡ false) × IsHiddenFrom B d class c G)

-- If one of these acts is a deposit of a class that is hidden from a connection, the connection is
-- sent the same without it, so long as the same else is there without it.
abbrev pub HidesDeposits : Records → List (Act × Tag) → Type 0
HidesDeposits B acts = (later before : List (Act × Tag)) (d class id text : List ℕ) (t : Tag)
    (c : ℕ)
    → acts ≡ later ++ (Deposit d class id text, t) ∷ before
    → AlwaysSameOtherwise B d class later ((Deposit d class id text, t) ∷ before) before
    → IsHiddenFrom B d class c (told B acts)
    → sent (told B acts) c ≡ sent (told B (later ++ before)) c

-- the same of every history
abbrev pub HiddenDepositLeavesNoTrace : Type 0
HiddenDepositLeavesNoTrace = (B : Records) (acts : List (Act × Tag)) → HidesDeposits B acts
