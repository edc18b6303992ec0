-- What follows if a line spells a command that may be given, and if it is refused.
use Rattle.std.proofs.Common.{◌≡◌, ◌∙◌, Bool, true, false, List, ℕ, Option, None, Result, Ok, Err, refl, sym, ap, subst, true≢false, is_some}
use Rattle.popline.specs.Cutting.{Cut, TooLong}
use Rattle.popline.specs.Cutting as cutting
use Rattle.popline.specs.Commands.{Command, User, Pass, Apop, Quit, command_of, keyword_of}
use Rattle.popline.specs.declared.command.Keyword.TheVariants as keyword
use Rattle.popline.specs.declared.command.LineFault.{LineFault}
use Rattle.popline.specs.declared.command.LineFault.TheVariants.{Unknown, Syntax}
use Rattle.popline.specs.Replies.{Reply, LineTooLong, WrongState, BadArguments}
use Rattle.creds.specs.declared.login_name.LoginName.{LoginName}
use Rattle.policy.specs.Policy.{Policy}
use Rattle.session.specs.declared.removals.Removals.{Removals}
use Rattle.session.specs.Session.{Session}
use Rattle.session.specs.View.{is_marked}
use Rattle.vault.specs.Changes.{Contents}
use Rattle.office.specs.History.{Tag, Done, Says}
use Rattle.office.specs.Accounts.{let_in, transaction_account}
use Rattle.office.specs.declared.account.Account.TheVariants as account
use Rattle.office.specs.declared.answer.MessageRow.{MessageRow}
use Rattle.office.specs.Connections.{reading, is_quit}
use Rattle.office.specs.LongLine.{is_too_long}
use Rattle.office.specs.Sessions.{logs_in, marks_after_line}
use Rattle.office.specs.Replying.{LineState, InAuthorization, InTransaction, Transaction, is_allowed, is_permitted, when_permitted, reply_to_reading, reply_to}
use Rattle.office.specs.Kept.{LineContext, authorization_line, state_of}
use Rattle.office.specs.declared.login_state.LoginState.{LoginState}
use Rattle.office.specs.Permitted.{Permits, Refuses}
use Rattle.office.specs.Transaction.{GoesOn, held_after_line}
use Rattle.office.specs.declared.login_state.LineOutcome.{LineOutcome}
use Rattle.office.specs.declared.login_state.LineOutcome.TheVariants as outcome
use Rattle.office.specs.Answered.{Becomes, SessionAfter}
use Rattle.office.proofs.Accounts.{transaction_fault}
use Rattle.office.proofs.Obeying.{reads_so}

-- ---- what follows of a command that may be given

fits_read : (x : Cut) (k : Command) → reading x ≡ Ok k → is_too_long x ≡ false
fits_read (cutting.Line l) k e = refl
fits_read TooLong k e = absurd (cc)

pub permitted_reply : (live has_user : Bool) (x : Cut) (k : Command) → Permits live has_user x k → (s : LineState) (t : Tag) → reply_to s x t ≡ reply_to_reading s (Ok k) t
permitted_reply live has_user x k it s t = sym (reads_so s x t (fits_read x k it.read)) ∙ ap (λ (r : Result Command LineFault). reply_to_reading s r t) it.read

-- ---- what follows of a line that is refused

-- what isn't allowed in a session
abbrev NotInSession : Result Command LineFault → Type 0
NotInSession r = (k : Command) → r ≡ Ok k → is_allowed (keyword_of k) true false ≡ false

held_reading : (p : Policy) (k : Session) (c : Contents) (r : Result Command LineFault) → NotInSession r → held_after_line outcome.Done p k r c ≡ c
held_reading p k c (Err f) bars = refl
held_reading p k c (Ok Quit) bars = absurd (true≢false (bars Quit refl))
held_reading p k c (Ok _) bars = refl

long_silent : (w : LineOutcome) (p : Policy) (k : Session) (r : Result Command LineFault) (m : Option MessageRow) → NotInSession r → transaction_account w p k r (Says LineTooLong) m ≡ account.Nothing
long_silent w p k (Err (Syntax keyword.User)) m bars = refl
long_silent w p k (Err (Syntax keyword.Apop)) m bars = refl
long_silent w p k (Err (Syntax _)) m bars = refl
long_silent w p k (Err Unknown) m bars = refl
long_silent w p k (Ok (User name)) m bars = refl
long_silent w p k (Ok (Pass password)) m bars = refl
long_silent w p k (Ok (Apop name digest)) m bars = refl
long_silent w p k (Ok command) m bars = absurd (true≢false (bars command refl))

module _ (p : Policy) (v : Transaction) where
  abbrev s : LineState
  s = InTransaction p v

  silent_reading : (w : LineOutcome) (k : Session) (r : Result Command LineFault) (m : Option MessageRow) → NotInSession r
      → transaction_account w p k r (Says (reply_to_reading s r Done)) m ≡ account.Nothing
  silent_reading w k (Err f) m bars = transaction_fault p v f
  silent_reading w k (Ok (User name)) m bars = refl
  silent_reading w k (Ok (Pass password)) m bars = refl
  silent_reading w k (Ok (Apop name digest)) m bars = refl
  silent_reading w k (Ok command) m bars = absurd (true≢false (bars command refl))

  keeps_reading : (r : Result Command LineFault) → NotInSession r → (ms : List ℕ) → marks_after_line (Says (reply_to_reading s r Done)) ms ≡ ms
  keeps_reading (Err Unknown) bars ms = refl
  keeps_reading (Err (Syntax k)) bars ms = at (is_permitted s k)
    where
      at : (b : Bool) → marks_after_line (Says (when_permitted b BadArguments)) ms ≡ ms
      at true = refl
      at false = refl
  keeps_reading (Ok k) bars ms = rw (bars k refl) refl

  module _ (x : Cut) (reply : Reply) (h : Refuses true false x reply) where
    not_here : NotInSession (reading x)
    not_here k is = h.not_allowed k is

    -- the reply to the line, whether the store fails or not
    pub refused_reply : (t : Tag) → reply ≡ reply_to s x t
    refused_reply t = sym (h.said s t (λ k. refl))

    -- what a fact about each reply to a line that isn't too long says of this one
    by_reading : (P : Reply → Type 0) → P LineTooLong → P (reply_to_reading s (reading x) Done) → P reply
    by_reading P long other = subst P (sym (refused_reply Done)) (at x long other)
      where
        at : (x : Cut) → P LineTooLong → P (reply_to_reading s (reading x) Done) → P (reply_to s x Done)
        at TooLong long other = long
        at (cutting.Line l) long other = other

    pub refused_silent : (w : LineOutcome) (k : Session) (m : Option MessageRow) → transaction_account w p k (reading x) (Says reply) m ≡ account.Nothing
    refused_silent w k m =
        by_reading (λ (q : Reply). transaction_account w p k (reading x) (Says q) m ≡ account.Nothing) (long_silent w p k (reading x) m not_here) (silent_reading w k (reading x) m not_here)

    pub refused_goes_on : (k : Session) → GoesOn reply k k
    refused_goes_on k = record {
      name = refl;
      removals = refl;
      view = refl;
      marks = λ n. by_reading (λ (q : Reply). is_marked k.marks n ≡ is_marked (marks_after_line (Says q) k.marks) n) refl
          (ap (λ (ms : List ℕ). is_marked ms n) (sym (keeps_reading (reading x) not_here k.marks)));
    }

    pub refused_held : (k : Session) (c : Contents) → held_after_line outcome.Done p k (reading x) c ≡ c
    refused_held k c = held_reading p k c (reading x) not_here

-- ---- what follows of a line that is refused before a login

nobody_by : (r : Result Command LineFault) (user : Option LoginName) → logs_in r (Says WrongState) user ≡ None
nobody_by (Ok (Pass password)) user = refl
nobody_by (Ok (Apop name digest)) user = refl
nobody_by _ user = refl

nobody_reading : (state : LineState) (r : Result Command LineFault) (user : Option LoginName)
    → ((k : Command) → r ≡ Ok k → is_permitted state (keyword_of k) ≡ false) → logs_in r (Says (reply_to_reading state r Done)) user ≡ None
nobody_reading state (Err f) user bars = refl
nobody_reading state (Ok k) user bars = rw (bars k refl) (nobody_by (Ok k) user)

none_after : (quits : Bool) (logged_in : Option LoginName) (c : Contents) (p : Policy) (j : Removals) (reply : Reply) → logged_in ≡ None → SessionAfter quits logged_in c p j reply None None
none_after true logged_in c p j reply e = refl
none_after false logged_in c p j reply e = rw e refl

module _ (d : LineContext) (t : LoginState) (x : Cut) (reply : Reply) (h : Refuses false (is_some t.user) x reply) where
  pub refused_line : reply ≡ authorization_line d t x
  refused_line = sym (h.said (state_of d t None) Done (λ k. refl))

  pub refused_begins : (c : Contents) (p : Policy) → Becomes c p t x reply None None
  refused_begins c p = none_after (is_quit (reading x)) (logs_in (reading x) (Says reply) t.user) c p t.removals reply
      (subst (λ (q : Reply). logs_in (reading x) (Says q) t.user ≡ None) (sym refused_line) (at x (λ k is. h.not_allowed k is)))
    where
      at : (x : Cut) → ((k : Command) → reading x ≡ Ok k → is_allowed (keyword_of k) false (is_some t.user) ≡ false) → logs_in (reading x) (Says (authorization_line d t x)) t.user ≡ None
      at TooLong bars = refl
      at (cutting.Line l) bars = nobody_reading (state_of d t None) (command_of l) t.user bars

lets_reading : (state : LineState) (r : Result Command LineFault) (rule : Option (List ℕ)) → ((k : Command) → r ≡ Ok k → is_permitted state (keyword_of k) ≡ false)
    → None ≡ let_in (reply_to_reading state r Done) rule
lets_reading state (Err Unknown) rule bars = refl
lets_reading state (Err (Syntax k)) rule bars = at (is_permitted state k)
  where
    at : (b : Bool) → None ≡ let_in (when_permitted b BadArguments) rule
    at true = refl
    at false = refl
lets_reading state (Ok k) rule bars = rw (bars k refl) refl

-- it lets nobody in
pub refused_lets_none : (user : Option LoginName) (x : Cut) (reply : Reply) → Refuses false (is_some user) x reply → (rule : Option (List ℕ)) → None ≡ let_in reply rule
refused_lets_none user x reply h rule = subst (λ (q : Reply). None ≡ let_in q rule) (h.said state Done (λ k. refl)) (at x (λ k is. h.not_allowed k is))
  where
    state : LineState
    state = InAuthorization user (λ name proof. WrongState)

    at : (x : Cut) → ((k : Command) → reading x ≡ Ok k → is_allowed (keyword_of k) false (is_some user) ≡ false) → None ≡ let_in (reply_to state x Done) rule
    at TooLong bars = refl
    at (cutting.Line l) bars = lets_reading state (command_of l) rule bars
