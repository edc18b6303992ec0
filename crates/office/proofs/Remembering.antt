-- What is remembered after a line of a session: no credential is refused in one, and nobody logs in.
use Rattle.std.proofs.Common.{◌≡◌, ℕ, Bool, true, false, ◌||◌, List, Option, Some, None, Result, Ok, Err, refl, sym, ◌∙◌, ap}
use Rattle.std.specs.Prelude.{if◌then◌else◌}
use Rattle.creds.specs.declared.login_name.LoginName.{LoginName}
use Rattle.policy.specs.Policy.{Policy}
use Rattle.policy.specs.declared.decide.Decision.{Decision}
use Rattle.popline.specs.Cutting.{Cut, TooLong}
use Rattle.popline.specs.Cutting as cutting
use Rattle.popline.specs.Commands.{Command, Capa, Pass, Apop, Quit, ListOne, UidlOne, Retr, Top, Dele, command_of, keyword_of}
use Rattle.popline.specs.declared.command.Keyword.{Keyword}
use Rattle.popline.specs.declared.command.Keyword.TheVariants as keyword
use Rattle.popline.specs.declared.command.LineFault.{LineFault}
use Rattle.popline.specs.declared.command.LineFault.TheVariants.{Unknown, Syntax}
use Rattle.popline.specs.Replies.{Reply, LoginFailedClosing, BadArguments, NoSuchMessage, AlreadyMarked, Marked, DeniedBy, ScanLine, UidLine, Message, TopPart}
use Rattle.vault.specs.declared.record.Message.{Message as Stored}
use Rattle.vault.specs.Records.{octets_of, uid_of}
use Rattle.mailtext.specs.Text.{lines_of, top_part, stuffed_lines}
use Rattle.session.specs.View.{at_number, is_marked, referred, retrieval, removal, denying}
use Rattle.vault.specs.Records as records
use Rattle.session.specs.declared.removals.Removals.TheVariants.{JudgedAtDele, JudgedAtQuit}
use Rattle.session.specs.declared.removals.Removals.{Removals}
use Rattle.office.specs.History.{Says}
use Rattle.office.specs.Connections.{reading, closes, is_quit, user_after_line, is_failure}
use Rattle.office.specs.Sessions.{logs_in}
use Rattle.office.specs.Replying.{session_says, is_allowed, when_permitted, refusal, quit_says, deleted_if, served_if}
use Rattle.office.specs.Kept.{login_state_after, one_more_failure}
use Rattle.office.specs.Transaction.{Transaction, transaction_answered, transaction_reply, transaction_user}
use Rattle.office.specs.declared.login_state.LineOutcome.{LineOutcome}
use Rattle.office.specs.declared.login_state.LineOutcome.TheVariants as outcome
use Rattle.office.specs.declared.login_state.LoginState.{LoginState}

-- ---- no reply refuses a credential

closes_quit : (r : Result Command LineFault) (reply : Reply) → is_failure (Says reply) ≡ false → closes r (Says reply) ≡ is_quit r
closes_quit r LoginFailedClosing e = cc
closes_quit r _ e = refl

permitted_fine : (b : Bool) (reply : Reply) → is_failure (Says reply) ≡ false → is_failure (Says (when_permitted b reply)) ≡ false
permitted_fine true reply h = h
permitted_fine false reply h = refl

referred_fine : (o : Option Stored) (b : Bool) (n : ℕ) (f : Stored → Reply) → ((m : Stored) → is_failure (Says (f m)) ≡ false)
    → is_failure (Says (referred o b NoSuchMessage (AlreadyMarked n) f)) ≡ false
referred_fine None b n f h = refl
referred_fine (Some m) true n f h = refl
referred_fine (Some m) false n f h = h m

deleted_fine : (j : Removals) (d : Decision) (n : ℕ) → is_failure (Says (deleted_if j d n)) ≡ false
deleted_fine JudgedAtQuit d n = refl
deleted_fine JudgedAtDele d n = at d.allowed
  where
    at : (b : Bool) → is_failure (Says (if b then Marked n else DeniedBy d.rule)) ≡ false
    at true = refl
    at false = refl

served_fine : (d : Decision) (reply : Reply) → is_failure (Says reply) ≡ false → is_failure (Says (served_if d reply)) ≡ false
served_fine d reply h = at d.allowed
  where
    at : (b : Bool) → is_failure (Says (if b then reply else DeniedBy d.rule)) ≡ false
    at true = h
    at false = refl

quit_fine : (o : Option (List ℕ)) → is_failure (Says (quit_says o)) ≡ false
quit_fine None = refl
quit_fine (Some rule) = refl

refusal_fine : (k : Keyword) → is_failure (Says (refusal k)) ≡ false
refusal_fine keyword.Quit = refl
refusal_fine _ = refl

module _ (p : Policy) (v : Transaction) where
  says_fine : (command : Command) → is_failure (Says (session_says p v command)) ≡ false
  says_fine Quit = quit_fine (denying records.class_of p v.name v.marks v.view)
  says_fine (ListOne n) = referred_fine (at_number v.view n) (is_marked v.marks n) n (λ m. ScanLine n (octets_of m)) (λ m. refl)
  says_fine (UidlOne n) = referred_fine (at_number v.view n) (is_marked v.marks n) n (λ m. UidLine n (uid_of m)) (λ m. refl)
  says_fine (Retr n) = referred_fine (at_number v.view n) (is_marked v.marks n) n (λ m. served_if (retrieval p v.name m.class) (Message (octets_of m) (stuffed_lines (lines_of m.text))))
      (λ m. served_fine (retrieval p v.name m.class) (Message (octets_of m) (stuffed_lines (lines_of m.text))) refl)
  says_fine (Top n k) = referred_fine (at_number v.view n) (is_marked v.marks n) n (λ m. served_if (retrieval p v.name m.class) (TopPart (stuffed_lines (top_part (lines_of m.text) k))))
      (λ m. served_fine (retrieval p v.name m.class) (TopPart (stuffed_lines (top_part (lines_of m.text) k))) refl)
  says_fine (Dele n) = referred_fine (at_number v.view n) (is_marked v.marks n) n (λ m. deleted_if v.removals (removal p v.name m.class) n) (λ m. deleted_fine v.removals (removal p v.name m.class) n)
  says_fine _ = refl

  answered_fine : (w : LineOutcome) (r : Result Command LineFault) → is_failure (Says (transaction_answered w p v r)) ≡ false
  answered_fine w (Err Unknown) = refl
  answered_fine w (Err (Syntax k)) = permitted_fine (is_allowed k true false) BadArguments refl
  answered_fine outcome.Done (Ok command) = permitted_fine (is_allowed (keyword_of command) true false) (session_says p v command) (says_fine command)
  answered_fine outcome.Failed (Ok command) = permitted_fine (is_allowed (keyword_of command) true false) (refusal (keyword_of command)) (refusal_fine (keyword_of command))

  reply_fine : (w : LineOutcome) (x : Cut) → is_failure (Says (transaction_reply w p v x)) ≡ false
  reply_fine w TooLong = refl
  reply_fine w (cutting.Line l) = answered_fine w (command_of l)

  -- no line of a session but QUIT closes its connection
  pub transaction_closes : (w : LineOutcome) (x : Cut) → closes (reading x) (Says (transaction_reply w p v x)) ≡ is_quit (reading x)
  transaction_closes w x = closes_quit (reading x) (transaction_reply w p v x) (reply_fine w x)

  -- ---- no line logs in

  no_login_read : (w : LineOutcome) (r : Result Command LineFault) (u : Option LoginName) → logs_in r (Says (transaction_answered w p v r)) u ≡ None
  no_login_read w (Ok (Pass password)) u = refl
  no_login_read w (Ok (Apop name digest)) u = refl
  no_login_read w _ u = refl

  pub transaction_no_login : (w : LineOutcome) (x : Cut) (u : Option LoginName) → logs_in (reading x) (Says (transaction_reply w p v x)) u ≡ None
  transaction_no_login w TooLong u = refl
  transaction_no_login w (cutting.Line l) u = no_login_read w (command_of l) u

  -- ---- the login name in force

  read_user : (w : LineOutcome) (r : Result Command LineFault) (u : Option LoginName) → user_after_line r (Says (transaction_answered w p v r)) u ≡ transaction_user w r u
  read_user outcome.Done (Ok Capa) u = refl
  read_user outcome.Failed (Ok Capa) u = refl
  read_user outcome.Done (Ok _) u = refl
  read_user outcome.Failed (Ok _) u = refl
  read_user outcome.Done (Err fault) u = refl
  read_user outcome.Failed (Err fault) u = refl

  user_is : (w : LineOutcome) (x : Cut) (u : Option LoginName) → user_after_line (reading x) (Says (transaction_reply w p v x)) u ≡ transaction_user w (reading x) u
  user_is outcome.Done TooLong u = refl
  user_is outcome.Failed TooLong u = refl
  user_is w (cutting.Line l) u = read_user w (command_of l) u

  abbrev login_state_of : Removals → Option LoginName → ℕ → Bool → LoginState
  login_state_of removals user failures closing = record { user = user; failures = failures; closing = closing; removals = removals }

  pub remembered : (w : LineOutcome) (x : Cut) (t : LoginState) (user : Option LoginName) (closing : Bool) → user ≡ transaction_user w (reading x) t.user → closing ≡ (is_quit (reading x) || t.closing)
      → login_state_of t.removals user t.failures closing ≡ login_state_after x (transaction_reply w p v x) t
  remembered w x t user closing e f =
      let reply : Reply = transaction_reply w p v x in
      let fine : is_failure (Says reply) ≡ false = reply_fine w x in
      let named : user ≡ user_after_line (reading x) (Says reply) t.user = e ∙ sym (user_is w x t.user) in
      let counted : t.failures ≡ (if is_failure (Says reply) then one_more_failure t.failures else t.failures) =
      sym (ap (λ (b : Bool). if b then one_more_failure t.failures else t.failures) fine) in
      let closed : closing ≡ (closes (reading x) (Says reply) || t.closing) = f ∙ ap (λ (b : Bool). b || t.closing) (sym (transaction_closes w x)) in
      ap (λ (u : Option LoginName). login_state_of t.removals u t.failures closing) named
      ∙ (ap (λ (n : ℕ). login_state_of t.removals (user_after_line (reading x) (Says reply) t.user) n closing) counted
      ∙ ap (λ (b : Bool). login_state_of t.removals (user_after_line (reading x) (Says reply) t.user) (if is_failure (Says reply) then one_more_failure t.failures else t.failures) b) closed)
