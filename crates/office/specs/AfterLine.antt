-- What a line makes of its connection and of the store, in one word.
use Rattle.std.specs.Prelude.{◌≡◌, ℕ, Bool, true, List, drop, Option, if◌then◌else◌}
use Rattle.std.specs.BTreeMap.{BTreeMap, get}
use Rattle.popline.specs.Cutting.{Cut, cut_of, fed, through_newline}
use Rattle.popline.specs.Replies.{Reply}
use Rattle.policy.specs.Policy.{Policy}
use Rattle.vault.specs.Changes.{Contents}
use Rattle.vault.specs.declared.vault.Vault.{Ghosts}
use Rattle.session.specs.Session.{Session}
use Rattle.office.specs.History.{Says}
use Rattle.office.specs.Connections.{reading}
use Rattle.office.specs.Output.{Output, OwesReply, OwesIf}
use Rattle.office.specs.Transaction.{Transaction}
use Rattle.office.specs.Accounts.{state_account, account_if}
use Rattle.office.specs.Kept.{Kept, LineContext, login_state_after, asks}
use Rattle.office.specs.Answered.{name_cmp, judged_at, reply_of, Becomes, BecomesIf}
use Rattle.office.specs.Answered.{held_after, held_if}
use Rattle.office.specs.declared.account.Account.{Account}
use Rattle.office.specs.declared.login_state.LoginState.{LoginState}
use Rattle.office.specs.declared.login_state.LineOutcome.{LineOutcome}
use Rattle.office.specs.declared.login_state.LineOutcome.TheVariants as outcome

-- ---- a line

-- A line was answered, in a session with these messages or before one. Its reply is owed; it is
-- remembered; the session is the one after it; the store holds what the line leaves. If the
-- store failed, the line is one that asks it, and the fault was counted. The account says what was
-- judged.
pub record AfterLine (After : Contents → Type 0) (grown : Bool) (c : Contents) (d : LineContext)
    (x : Cut) (w : LineOutcome) (v : Option Transaction) (old new : Option Session)
    (before now : LoginState) (output : Output) (told : Account) : Type 0 where
  pub owed : OwesReply c new output (reply_of w d before v x)
  pub state : now ≡ login_state_after x (reply_of w d before v x) before
  pub session : Becomes c d.policy before x (reply_of w d before v x) old new
  pub held : After (held_after w d.policy old (reading x) c)
  pub may : w ≡ outcome.Failed → asks d.policy before v (reading x) ≡ true
  pub cause : w ≡ outcome.Failed → grown ≡ true
  pub account : told ≡ state_account w d.policy v (reading x)
      (Says (reply_of w d before v x)) before.user

-- Memory was wanting for a line: the store holds what it held, and each maildrop is locked as it
-- was.
pub record NothingDone {V : Type 0} (vault : Ghosts V) (old new : V)
    (before now : BTreeMap (List ℕ) ℕ) : Type 0 where
  pub held : (c : Contents) → vault.holds old c → vault.is_clean new → vault.holds new c
  pub locks : (d : List ℕ) → get name_cmp now d ≡ get name_cmp before d

-- ---- the octets of a connection

-- octets are cut up to their first LF; what is after it is pending
abbrev pub cut_through : (octets : List ℕ) → Kept → Kept
cut_through octets k = record k {
  held = fed k.held octets;
  pending = drop (through_newline octets) octets;
}

-- the line that is whole, if one is
abbrev pub line_of : Kept → Cut
line_of k = cut_of k.held.octets

-- what is kept after the line that is whole, if one is, got this reply
abbrev pub replied : Kept → Reply → Option Session → Output → Kept
replied k reply session output = record k {
  output = output;
  state = if k.held.whole then login_state_after (line_of k) reply k.state else k.state;
  session = session;
}

-- the reply to that line
abbrev pub reply_next : Contents → Policy → BTreeMap (List ℕ) ℕ → Option Transaction → LineOutcome
    → Kept → Reply
reply_next c p locks v w k = reply_of w (judged_at c p k.stamp locks) k.state v (line_of k)

-- The line that is whole was answered, as `AfterLine` says; if none is, nothing is owed, and
-- nothing else changed.
pub record AfterNext (After : Contents → Type 0) (grown : Bool) (c : Contents) (p : Policy)
    (locks : BTreeMap (List ℕ) ℕ) (v : Option Transaction) (k new : Kept) (w : LineOutcome)
    (told : Account) : Type 0 where
  pub kept : new ≡ replied k (reply_next c p locks v w k) new.session new.output
  pub owes : OwesIf k.held.whole c new.session new.output (reply_next c p locks v w k)
  pub session : BecomesIf k.held.whole c p k.state (line_of k) (reply_next c p locks v w k)
      k.session new.session
  pub held : After (held_if k.held.whole w p k.session (reading (line_of k)) c)
  pub may : w ≡ outcome.Failed → (k.held.whole ≡ true)
      × (asks p k.state v (reading (line_of k)) ≡ true)
  pub cause : w ≡ outcome.Failed → grown ≡ true
  pub account : told ≡ account_if k.held.whole (state_account w p v
      (reading (line_of k)) (Says (reply_next c p locks v w k)) k.state.user)
