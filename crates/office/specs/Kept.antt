-- What an office keeps of a connection, and what it keeps after the next line.
use Rattle.std.specs.Prelude.{ℕ, Bool, false, ◌||◌, ◌+◌, nat_lt, List, [], drop, Option, Some}
use Rattle.std.specs.Prelude.{None, Result, if◌then◌else◌, is_some}
use Rattle.creds.specs.declared.login_name.LoginName.{LoginName}
use Rattle.creds.specs.Credential.{Shown, is_admitted}
use Rattle.popline.specs.Cutting.{Cut, cut_of, Held, fed, through_newline, has_newline}
use Rattle.popline.specs.Commands.{Command}
use Rattle.popline.specs.declared.command.LineFault.{LineFault}
use Rattle.popline.specs.Replies.{Reply}
use Rattle.policy.specs.Policy.{Policy, decide}
use Rattle.policy.specs.declared.rule.Action.TheVariants as to
use Rattle.vault.specs.Records.{Records, credential_in, is_one_of, in_maildrop, class_of}
use Rattle.session.specs.View.{visible}
use Rattle.session.specs.Session.{Session}
use Rattle.session.specs.declared.removals.Removals.{Removals}
use Rattle.office.specs.History.{Says, Done}
use Rattle.office.specs.Connections.{reading, closes, user_after_line, is_failure}
use Rattle.office.specs.Replying.{Transaction, LineState, InAuthorization, InTransaction}
use Rattle.office.specs.Replying.{login_reply, login_asked, transaction_asks, reply_to}
use Rattle.office.specs.Replying.{reply_to_reading}
use Rattle.office.specs.Output.{Output}
use Rattle.office.specs.declared.login_state.LoginState.{LoginState}

-- What a line is judged by, beside what its connection remembers: the store's records, the policy,
-- the greeting's timestamp, and which maildrops are locked.
pub record LineContext : Type 0 where
  pub store : Records
  pub policy : Policy
  pub stamp : List ℕ
  pub is_locked : List ℕ → Bool

-- the reply to a login: it is judged by the credential, the policy, the maildrop, the lock
abbrev pub judged : LineContext → (failures : ℕ) → LoginName → Shown → Reply
judged d failures name proof = login_reply
    (is_admitted (credential_in name.clerk d.store.clerks) name.clerk d.stamp proof) failures
    (decide d.policy name.clerk name.maildrop [] to.Open)
    (is_one_of name.maildrop d.store.maildrops) (d.is_locked name.maildrop)
    (visible class_of d.policy name (in_maildrop name.maildrop d.store.messages))

-- the state that a line meets
abbrev pub state_of : LineContext → LoginState → Option Transaction → LineState
state_of d t None = InAuthorization t.user (judged d t.failures)
state_of d t (Some v) = InTransaction d.policy v

-- the reply to what a line reads as before a login, if the store doesn't fail
abbrev pub authorization_said : LineContext → LoginState → Result Command LineFault → Reply
authorization_said d t r = reply_to_reading (state_of d t None) r Done

-- the reply to a line before a login, if the store doesn't fail
abbrev pub authorization_line : LineContext → LoginState → Cut → Reply
authorization_line d t x = reply_to (state_of d t None) x Done

-- a line before a login that asks the store
abbrev pub authorization_asks : LoginState → Result Command LineFault → Bool
authorization_asks t r = is_some (login_asked r t.user)

-- a line that asks the store, in a session or before one
abbrev pub asks : Policy → LoginState → Option Transaction → Result Command LineFault → Bool
asks p t None r = authorization_asks t r
asks p t (Some v) r = transaction_asks p v r

-- what a new connection remembers: no name in force, and no credential refused
abbrev pub nothing_said : Removals → LoginState
nothing_said removals = record { user = None; failures = 0; closing = false; removals = removals }

-- at most so many failures are counted
abbrev pub most_failures : ℕ
most_failures = 255

-- one more, up to the most
abbrev pub one_more_failure : ℕ → ℕ
one_more_failure n = if nat_lt n most_failures then n + 1 else n

-- what is remembered after a line that got this reply
abbrev pub login_state_after : Cut → Reply → LoginState → LoginState
login_state_after x r t = record {
  user = user_after_line (reading x) (Says r) t.user;
  failures = if is_failure (Says r) then one_more_failure t.failures else t.failures;
  closing = closes (reading x) (Says r) || t.closing;
  removals = t.removals;
}

-- What an office keeps of a connection: the line that is being cut (`held`), octets that aren't cut
-- yet, what is owed, what is remembered, the greeting's timestamp, the session, and the moment from
-- which idle time is counted.
pub record Kept : Type 0 where
  pub held : Held
  pub pending : List ℕ
  pub output : Output
  pub state : LoginState
  pub stamp : List ℕ
  pub session : Option Session
  pub clock : ℕ

-- the maildrop that a session holds
abbrev pub maildrop_of : Option Session → Option (List ℕ)
maildrop_of None = None
maildrop_of (Some s) = Some s.name.maildrop

-- a piece with LF sets the clock
abbrev pub clocked : (now : ℕ) → List ℕ → Kept → Kept
clocked now octets k = record k { clock = if has_newline octets then now else k.clock }

-- What is kept after these octets came: if they make a line whole, it got this reply and left
-- this session and this output.
abbrev pub answered : Kept → List ℕ → Reply → Option Session → Output → Kept
answered k octets reply session output =
    let w = fed k.held octets in
    record {
      held = w;
      pending = drop (through_newline octets) octets;
      output = output;
      state = if w.whole then login_state_after (cut_of w.octets) reply k.state else k.state;
      stamp = k.stamp;
      session = session;
      clock = k.clock;
    }

-- the line that these octets make whole, after what is held
abbrev pub line_after : Kept → List ℕ → Cut
line_after k octets = cut_of (fed k.held octets).octets
