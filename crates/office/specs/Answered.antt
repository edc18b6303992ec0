-- What answering a line does: its reply, the session after it, the locks, and what the store then
-- holds.
use Rattle.std.specs.Prelude.{◌≡◌, ℕ, Bool, true, false, List, ⊤, Option, Some, None, Result}
use Rattle.std.specs.Prelude.{is_some}
use Rattle.std.specs.Ordering.{nat_cmp}
use Rattle.std.specs.declared.cmp.Ordering.{Ordering}
use Rattle.std.specs.Cmp.Lexicographic.{slice_cmp}
use Rattle.std.specs.BTreeMap.{BTreeMap, get, Updates}
use Rattle.creds.specs.declared.login_name.LoginName.{LoginName}
use Rattle.policy.specs.Policy.{Policy}
use Rattle.popline.specs.Commands.{Command}
use Rattle.popline.specs.declared.command.LineFault.{LineFault}
use Rattle.vault.specs.Changes.{Contents, records_of, heads}
use Rattle.popline.specs.Cutting.{Cut}
use Rattle.vault.specs.declared.record.Keyed.{Keyed}
use Rattle.popline.specs.Replies.{Reply}
use Rattle.session.specs.Session.{Session, started}
use Rattle.session.specs.declared.removals.Removals.{Removals}
use Rattle.office.specs.History.{Says}
use Rattle.office.specs.Outcomes as outcomes
use Rattle.office.specs.Outcomes.{Outcome}
use Rattle.office.specs.Connections.{reading, is_quit}
use Rattle.office.specs.Sessions.{logs_in}
use Rattle.office.specs.Replying.{reply_to}
use Rattle.office.specs.Transaction.{Transaction, transaction_of, LiesIn, GoesOn, held_after_line}
pub use Rattle.office.specs.Transaction.{tag_of}
use Rattle.office.specs.Kept.{LineContext as Judged, state_of}
use Rattle.office.specs.declared.login_state.LoginState.{LoginState}
use Rattle.office.specs.declared.login_state.LineContext.{LineContext}
use Rattle.office.specs.declared.login_state.LineOutcome.{LineOutcome}
use Rattle.office.specs.declared.login_state.LineOutcome.TheVariants as outcome

-- ---- what a line is judged by

-- names in the order of their octets
abbrev pub name_cmp : List ℕ → List ℕ → Ordering
name_cmp = slice_cmp nat_cmp

-- whether a maildrop is locked
abbrev pub is_locked_by : BTreeMap (List ℕ) ℕ → List ℕ → Bool
is_locked_by locks name = is_some (get name_cmp locks name)

-- what a line is judged by, over a store with these contents and under these locks
abbrev pub judged_at : Contents → Policy → (stamp : List ℕ) → BTreeMap (List ℕ) ℕ → Judged
judged_at c policy stamp locks = record
    { store = records_of c; policy = policy; stamp = stamp; is_locked = is_locked_by locks }

-- the same, by the context that the code passes
abbrev pub context_over : Contents → LineContext → BTreeMap (List ℕ) ℕ → Judged
context_over c d locks = judged_at c d.policy.now d.stamp.now locks

-- a session that is kept, with its messages as the store holds them
abbrev pub HasTransaction : Contents → Option Session → Option Transaction → Type 0
HasTransaction c None None = ⊤
HasTransaction c (Some s) (Some v) =
    (kept : List Keyed) × LiesIn c s kept × (v ≡ transaction_of s kept)
HasTransaction c _ _ = ⊥

-- ---- the reply

-- the reply to a line, if the store fails or not
abbrev pub reply_of : LineOutcome → Judged → LoginState → Option Transaction → Cut → Reply
reply_of w d t v x = reply_to (state_of d t v) x (tag_of w)

-- the outcome of that event
abbrev pub shown_of : LineOutcome → Outcome
shown_of outcome.Done = outcomes.Done
shown_of outcome.Failed = outcomes.Failed

-- ---- the session

-- A QUIT ends a session; an accepted login begins one, which judges removals as `Removals` says;
-- any other line leaves the session, with the marks that its reply says.
abbrev pub SessionAfter : (quits : Bool) → (logged_in : Option LoginName) → Contents → Policy
    → Removals → Reply → (old new : Option Session) → Type 0
SessionAfter true logged_in c p j reply old new = new ≡ None
SessionAfter false (Some name) c p j reply old new =
    new ≡ Some (started p j name.clerk name.maildrop (heads name.maildrop c))
SessionAfter false None c p j reply None new = new ≡ None
SessionAfter false None c p j reply (Some s) (Some n) = GoesOn reply s n
SessionAfter false None c p j reply (Some s) None = ⊥

-- the session after a line that got this reply
abbrev pub Becomes : Contents → Policy → LoginState → Cut → Reply → (old new : Option Session)
    → Type 0
Becomes c p t x reply old new = SessionAfter (is_quit (reading x))
    (logs_in (reading x) (Says reply) t.user) c p t.removals reply old new

-- the session after octets: the same, if no line is whole
abbrev pub BecomesIf : (has_line : Bool) → Contents → Policy → LoginState → Cut → Reply
    → (old new : Option Session) → Type 0
BecomesIf true c p t x reply old new = Becomes c p t x reply old new
BecomesIf false c p t x reply old new = new ≡ old

-- a session that begins takes its maildrop's lock, one that ends lets it go, and no other changes
abbrev pub LocksFollow : ℕ → (old new : Option Session) → (before now : BTreeMap (List ℕ) ℕ)
    → Type 0
LocksFollow n None (Some s) before now = Updates name_cmp before now s.name.maildrop (Some n)
LocksFollow n (Some s) None before now = Updates name_cmp before now s.name.maildrop None
LocksFollow n _ _ before now = (d : List ℕ) → get name_cmp now d ≡ get name_cmp before d

-- ---- the store

-- what the store holds after a line
abbrev pub held_after : LineOutcome → Policy → Option Session → Result Command LineFault → Contents
    → Contents
held_after w p None r c = c
held_after w p (Some s) r c = held_after_line w p s r c

-- what it holds after octets, with a whole line or none
abbrev pub held_if : (has_line : Bool) → LineOutcome → Policy → Option Session
    → Result Command LineFault → Contents → Contents
held_if true w p s r c = held_after w p s r c
held_if false w p s r c = c
