-- What a line's account is by what is kept of its connection, and what an event's is by its acts.
use Rattle.std.proofs.Common.{◌≡◌, ℕ, Bool, true, false, List, [], ◌∷◌, ◌++◌, Option, Some, None, Result, Ok, Err, refl, sym, ◌∙◌, ap, subst, true≢false}
use Rattle.creds.specs.declared.login_name.LoginName.{LoginName}
use Rattle.policy.specs.Policy.{Policy}
use Rattle.popline.specs.Cutting.{Cut, TooLong, has_newline}
use Rattle.popline.specs.Cutting as cutting
use Rattle.std.specs.Option.{option_map}
use Rattle.popline.specs.Commands.{Command, Pass, Apop, Quit, Retr, Top, Dele, command_of}
use Rattle.popline.specs.declared.command.Keyword.TheVariants as keyword
use Rattle.popline.specs.declared.command.LineFault.{LineFault}
use Rattle.popline.specs.declared.command.LineFault.TheVariants.{Unknown, Syntax}
use Rattle.popline.specs.Replies.{Reply, MaildropHas, Message, TopPart}
use Rattle.vault.specs.Records.{Records}
use Rattle.vault.specs.Changes.{Contents}
use Rattle.vault.specs.declared.record.Keyed.{Keyed}
use Rattle.session.specs.Session.{Session}
use Rattle.office.specs.History.{Act, Line, Idle, Tag, Done, Failed, NoMemory, Said, Says, Entry, in_force}
use Rattle.office.specs.Connections.{is_quit, reading, user, serving, closing}
use Rattle.office.specs.Sessions.{in_session}
use Rattle.office.specs.Replying.{nobody, name_or_nobody, said_to_line, reply_to_cut}
use Rattle.office.specs.Events.{EventTag, Ignored, Tagged, Trace}
use Rattle.office.specs.Events as event
use Rattle.office.specs.Answers.{AdminCommand}
use Rattle.office.specs.Outcomes.{Outcome, event_tag_of}
use Rattle.office.specs.Expected.{IsOutcome, shown_at}
use Rattle.office.specs.Trace.{history, idle_acts, idle_numbers, is_left, next_line, acts_of_piece, acts_of_took, line_act}
use Rattle.office.specs.Kept.{LineContext, asks}
use Rattle.office.specs.Transaction.{Transaction, LiesIn, transaction_of, transaction_said, transaction_answered, transaction_asks, transaction_reply}
use Rattle.office.specs.Answered.{reply_of, tag_of, HasTransaction}
use Rattle.office.specs.Accounts.{verdict, login_told, message_told, opening_rule, deciding, let_in, let_in_by, command_account, fault_told, line_account, account_under, transaction_account}
use Rattle.office.specs.Accounts.{quit_or, quit_account, removal_by, who_in, line_told, acts_account, acts_told}
use Rattle.office.specs.Accounts.{failed_told, taken_told, part_or_all_told, account_of, outcome_told, removal_told, removal_seen, state_account, named_in, named_seen, named_at}
use Rattle.office.specs.declared.answer.MessageRow.{MessageRow}
use Rattle.office.specs.declared.account.Account.{Account}
use Rattle.office.specs.declared.account.Account.TheVariants as account
use Rattle.office.specs.declared.account.MessageCommand.{MessageCommand}
use Rattle.office.specs.declared.account.MessageCommand.TheVariants as to
use Rattle.office.specs.declared.account.Removal.{Removal}
use Rattle.office.specs.declared.account.Verdict.{Verdict}
use Rattle.office.specs.declared.account.Way.TheVariants as way
use Rattle.office.specs.Telling.{is_told}
use Rattle.office.specs.declared.login_state.LoginState.{LoginState}
use Rattle.office.specs.declared.login_state.LineOutcome.{LineOutcome}
use Rattle.office.specs.declared.login_state.LineOutcome.TheVariants as outcome
use Rattle.office.proofs.Quitting.{removed_alike, denying_alike, marks_counted}
use Rattle.office.proofs.Judging.{Judges}

-- ---- a session's lines

abbrev is_pass : Result Command LineFault → Bool
is_pass (Ok (Pass password)) = true
is_pass _ = false

-- only a PASS depends on the name in force
nobody_named : (p : Policy) (who : LoginName) (r : Result Command LineFault) (said : Said) (u : Option LoginName) (m : Option MessageRow) → is_pass r ≡ false
    → account_under p who r said None m ≡ account_under p who r said u m
nobody_named p who (Ok (Pass password)) said u m e = absurd (true≢false e)
nobody_named p who _ said u m e = refl

module _ (p : Policy) (v : Transaction) (u : Option LoginName) where
  told_read : (r : Result Command LineFault) (m : Option MessageRow) → account_under p v.name r (Says (transaction_said p v r)) None m ≡ account_under p v.name r (Says (transaction_said p v r)) u m
  told_read (Ok (Pass password)) m = refl
  told_read _ m = refl

  asks_no_pass : (r : Result Command LineFault) → transaction_asks p v r ≡ true → is_pass r ≡ false
  asks_no_pass (Ok (Pass password)) e = cc
  asks_no_pass _ e = refl

  -- a line of a session has the same account under every name
  pub transaction_told : (w : LineOutcome) (x : Cut) (m : Option MessageRow) → (w ≡ outcome.Failed → transaction_asks p v (reading x) ≡ true)
      → account_under p v.name (reading x) (Says (transaction_reply w p v x)) None m ≡ account_under p v.name (reading x) (Says (transaction_reply w p v x)) u m
  transaction_told outcome.Done TooLong m may = refl
  transaction_told outcome.Done (cutting.Line l) m may = told_read (command_of l) m
  transaction_told outcome.Failed x m may = nobody_named p v.name (reading x) (Says (transaction_reply outcome.Failed p v x)) u m (asks_no_pass (reading x) (may refl))

-- a misread line of a session names nobody
pub transaction_fault : (p : Policy) (v : Transaction) (f : LineFault) → fault_told f (Says (transaction_said p v (Err f))) ≡ account.Nothing
transaction_fault p v Unknown = refl
transaction_fault p v (Syntax keyword.User) = refl
transaction_fault p v (Syntax keyword.Apop) = refl
transaction_fault p v (Syntax _) = refl

-- no rule lets a command be done that is told without the store
no_rule : (w : LineOutcome) (p : Policy) (s : Session) (v : Transaction) (command : Command) (m : Option MessageRow) → is_told command ≡ true
    → command_account command (Says (transaction_said p v (Ok command))) None None m ≡ transaction_account w p s (Ok command) (Says (transaction_said p v (Ok command))) m
no_rule w p s v Quit m e = absurd (true≢false (sym e))
no_rule w p s v (Retr n) m e = absurd (true≢false (sym e))
no_rule w p s v (Top n k) m e = absurd (true≢false (sym e))
no_rule w p s v _ m e = refl

-- a command whose reply is made without the store
pub told_so : (p : Policy) (s : Session) (v : Transaction) (w : LineOutcome) (command : Command) (reply : Reply) (m : Option MessageRow) (told : Account) → is_told command ≡ true → w ≡ outcome.Done
    → reply ≡ transaction_said p v (Ok command) → m ≡ named_in v (Ok command) → told ≡ command_account command (Says reply) None None m
    → told ≡ transaction_account w p s (Ok command) (Says (transaction_answered w p v (Ok command))) (named_in v (Ok command))
told_so p s v w command reply m told is e said names so = rw e (so ∙ (ap (λ (r : Reply). command_account command (Says r) None None m) said
    ∙ (ap (λ (m : Option MessageRow). command_account command (Says (transaction_said p v (Ok command))) None None m) names ∙ no_rule outcome.Done p s v command (named_in v (Ok command)) is)))

-- a QUIT before a login
quits_told : (r : Result Command LineFault) (said : Said) (rule : Option (List ℕ)) (u : Option LoginName) → is_quit r ≡ true → line_account r said rule u None ≡ account.QuitBeforeLogin
quits_told (Ok Quit) said rule u e = refl
quits_told _ said rule u e = absurd (true≢false (sym e))

-- what is kept of a session removes what the store's messages say
removal_alike : (c : Contents) (p : Policy) (s : Session) (kept : List Keyed) → LiesIn c s kept → (w : LineOutcome) → removal_told w p s ≡ removal_seen w p (transaction_of s kept)
removal_alike c p s kept lies w =
    let removed = removed_alike c p s kept lies in
    let denied = denying_alike c p s kept lies in
    let marks = marks_counted c p s kept lies in
    rw (removed, denied, marks) refl

-- the rule that let a clerk in says what the rule that decides on a login does
same_verdict : (reply : Reply) (rule : Option (List ℕ)) → verdict (Says reply) (let_in reply rule) ≡ verdict (Says reply) rule
same_verdict (MaildropHas n m) rule = refl
same_verdict _ rule = refl

-- a line before a login names no message
no_message : (command : MessageCommand) (reply : Reply) (a b : Option (List ℕ)) → message_told command (Says reply) a None ≡ message_told command (Says reply) b None
no_message command reply None None = refl
no_message command (Message octets lines) None (Some b) = refl
no_message command (TopPart lines) None (Some b) = refl
no_message command _ None (Some b) = refl
no_message command (Message octets lines) (Some a) None = refl
no_message command (TopPart lines) (Some a) None = refl
no_message command _ (Some a) None = refl
no_message command (Message octets lines) (Some a) (Some b) = refl
no_message command (TopPart lines) (Some a) (Some b) = refl
no_message command _ (Some a) (Some b) = refl

let_in_told : (p : Policy) (who : LoginName) (r : Result Command LineFault) (reply : Reply) (u : Option LoginName)
    → line_account r (Says reply) (let_in_by p r u reply) u None ≡ account_under p who r (Says reply) u None
let_in_told p who (Ok (Pass password)) reply u = ap (λ (v : Option Verdict). login_told v way.Pass u) (same_verdict reply (option_map (opening_rule p) u))
let_in_told p who (Ok (Apop name digest)) reply u = ap (λ (v : Option Verdict). login_told v way.Apop (Some name)) (same_verdict reply (Some (opening_rule p name)))
let_in_told p who (Ok (Retr n)) reply u = no_message to.Retr reply (let_in reply None) None
let_in_told p who (Ok (Top n k)) reply u = no_message to.Top reply (let_in reply None) None
let_in_told p who (Ok (Dele n)) reply u = no_message to.Dele reply (let_in reply None) None
let_in_told p who _ reply u = refl

-- a line before a login has its account by its reply
pub authorization_told : (w : LineOutcome) (p : Policy) (r : Result Command LineFault) (reply : Reply) (u : Option LoginName)
    → line_account r (Says reply) (let_in_by p r u reply) u None ≡ state_account w p None r (Says reply) u
authorization_told w p r reply u = let_in_told p nobody r reply u ∙ at (is_quit r) refl
  where
    at : (b : Bool) → is_quit r ≡ b → account_under p nobody r (Says reply) u None ≡ quit_or b account.QuitBeforeLogin (account_under p nobody r (Says reply) u None)
    at true e = quits_told r (Says reply) (deciding p nobody r u None) u e
    at false e = refl

-- a line of a session has its account by its reply, unless it quits
pub state_told : (c : Contents) (p : Policy) (s : Session) (v : Transaction) (w : LineOutcome) (u : Option LoginName) (x : Cut) (told : Account) → HasTransaction c (Some s) (Some v)
    → (w ≡ outcome.Failed → transaction_asks p v (reading x) ≡ true) → told ≡ transaction_account w p s (reading x) (Says (transaction_reply w p v x)) (named_in v (reading x))
    → told ≡ state_account w p (Some v) (reading x) (Says (transaction_reply w p v x)) u
state_told c p s v w u x told seat may is =
    let quits = is_quit (reading x) in
    let m = named_in v (reading x) in
    let said = Says (transaction_reply w p v x) in
    let who : s.name ≡ v.name = sym (ap (λ (v : Transaction). v.name) seat.2) in
    is ∙ (ap (λ (r : Removal). quit_or quits (account.Quit r) (account_under p s.name (reading x) said None m))
    (removal_alike c p s seat.0 seat.1 w ∙ ap (removal_seen w p) (sym seat.2))
    ∙ (ap (λ (name : LoginName). quit_or quits (account.Quit (removal_seen w p v)) (account_under p name (reading x) said None m)) who
    ∙ ap (λ (o : Account). quit_or quits (account.Quit (removal_seen w p v)) o) (transaction_told p v u w x m may)))

-- ---- a line that acts

said_with : (B : Records) (G : List Entry) (c : ℕ) (x : Cut) (w : LineOutcome) → said_to_line B G c x (tag_of w) ≡ Says (reply_to_cut B G c x (tag_of w))
said_with B G c x outcome.Done = refl
said_with B G c x outcome.Failed = refl

-- the account of a line under a policy, with this one for a QUIT
abbrev under : Policy → (who : LoginName) → Cut → Said → (user : Option LoginName) → (message : Option MessageRow) → (quit : Account) → Account
under p who x said u m quit = quit_or (is_quit (reading x)) quit (account_under p who (reading x) said u m)

told_with : (B : Records) (G : List Entry) (c : ℕ) (x : Cut) (w : LineOutcome) → line_told B G c x (tag_of w)
    ≡ under (in_force B G) (name_or_nobody (in_session G c)) x (said_to_line B G c x (tag_of w)) (user G c) (named_at B G c (reading x)) (quit_account (in_session G c) (removal_by B G c (tag_of w)))
told_with B G c x outcome.Done = refl
told_with B G c x outcome.Failed = refl

pub line_so : (B : Records) (G : List Entry) (c : ℕ) (k : Contents) (d : LineContext) (t : LoginState) (old : Option Session) (j : Judges B G c k d t old)
    → t.user ≡ user G c → (x : Cut) (w : LineOutcome)
    → (w ≡ outcome.Failed → asks d.policy t j.transaction (reading x) ≡ true)
    → state_account w d.policy j.transaction (reading x) (Says (reply_of w d t j.transaction x)) t.user ≡ acts_account B G (line_act c (tag_of w) (Some x))
line_so B G c k d t old j user_is x w may =
    let who = who_in j.transaction in
    let m = named_seen j.transaction (reading x) in
    let quit = quit_account (in_session G c) (removal_by B G c (tag_of w)) in
    let said = said_to_line B G c x (tag_of w) in
    let names = named_at B G c (reading x) in
    ap (under d.policy who x (Says (reply_of w d t j.transaction x)) t.user m) (sym (j.quits w))
    ∙ (ap (λ (r : Reply). under d.policy who x (Says r) t.user m quit) (sym (j.reply x w may))
    ∙ (ap (λ (s : Said). under d.policy who x s t.user m quit) (sym (said_with B G c x w))
    ∙ (ap (λ (o : Option LoginName). under d.policy who x said o m quit) user_is
    ∙ (ap (λ (m : Option MessageRow). under d.policy who x said (user G c) m quit) (sym (j.names (reading x)))
    ∙ (ap (λ (p : Policy). under p who x said (user G c) names quit) j.policy
    ∙ (ap (λ (name : LoginName). under (in_force B G) name x said (user G c) names quit) j.who
    ∙ sym (told_with B G c x w)))))))

-- ---- events in which no line acts

module _ (B : Records) (G : List Entry) where
  -- the line after a taking of all
  pub all_taken : (left serving closing : Bool) (c : ℕ) (t : Tag) (next x : Option Cut) → left ≡ false → closing ≡ false → next ≡ x
      → acts_account B G (acts_of_took left serving closing c t next) ≡ acts_account B G (line_act c t x)
  all_taken left serving closing c t next x all on is = rw (all, on, is) refl

  pub part_taken : (serving closing : Bool) (c : ℕ) (next : Option Cut) → acts_account B G (acts_of_took true serving closing c Done next) ≡ account.Nothing
  part_taken serving closing c next = refl

  behind_idle : (H : List (Act × Tag)) (c : ℕ) → acts_account B G (H ++ (Idle c, Done) ∷ []) ≡ account.Nothing
  behind_idle [] c = refl
  behind_idle ((Line n x, t) ∷ []) c = refl
  behind_idle ((Line n x, t) ∷ (y ∷ H)) c = refl
  behind_idle ((a, t) ∷ H) c = refl

  none_idle : (numbers : List ℕ) → acts_account B G (idle_acts numbers) ≡ account.Nothing
  none_idle [] = refl
  none_idle (c ∷ numbers) = behind_idle (idle_acts numbers) c

module _ (T : Trace) where
  pub opening_told : (m : EventTag) → account_of T event.Connect m ≡ account.Nothing
  opening_told Ignored = refl
  opening_told (Tagged Done) = refl
  opening_told (Tagged Failed) = refl
  opening_told (Tagged NoMemory) = refl

  -- a line that acted is what the account says
  pub piece_account : (c : ℕ) (p : List ℕ) (w : LineOutcome) → account_of T (event.Bytes c p) (Tagged (tag_of w))
      ≡ acts_account T.base (history T) (acts_of_piece (has_newline p) c (tag_of w) (next_line T.log (history T) c p))
  piece_account c p outcome.Done = refl
  piece_account c p outcome.Failed = refl

  pub taking_account : (c n : ℕ) (w : LineOutcome) → is_left T.log (history T) c n ≡ false → account_of T (event.Took c n) (Tagged (tag_of w))
      ≡ taken_told (acts_account T.base (history T)
      (acts_of_took (is_left T.log (history T) c n) (serving (history T) c) (closing (history T) c) c (tag_of w) (next_line T.log (history T) c [])))
  taking_account c n outcome.Done all = ap (λ (left : Bool). part_or_all_told left (acts_told T (event.Took c n) Done)) all
  taking_account c n outcome.Failed all = ap (λ (left : Bool). failed_told left (acts_told T (event.Took c n) Failed)) all

  pub tick_told : (now : ℕ) (m : EventTag) → account_of T (event.Tick now) m ≡ account.Nothing
  tick_told now Ignored = refl
  tick_told now (Tagged t) = none_idle T.base (history T) (idle_numbers T.log (history T) _)

  pub deposit_told : (d class id text : List ℕ) (m : EventTag) → account_of T (event.Deposit d class id text) m ≡ account.Nothing
  deposit_told d class id text Ignored = refl
  deposit_told d class id text (Tagged t) = refl

  -- a command's account, by its outcome
  command_shown : (command : AdminCommand) (t : Tag)
      → account_of T (event.Admin command) (event_tag_of (shown_at T.base T.log (history T) (event.Admin command) t)) ≡ outcome_told (shown_at T.base T.log (history T) (event.Admin command) t)
  command_shown command Done = refl
  command_shown command Failed = refl
  command_shown command NoMemory = refl

  pub command_told : (lent : ℕ → ℕ) (command : AdminCommand) (o : Outcome) → IsOutcome T lent (event.Admin command) o → account_of T (event.Admin command) (event_tag_of o) ≡ outcome_told o
  command_told lent command o is = subst (λ (o : Outcome). account_of T (event.Admin command) (event_tag_of o) ≡ outcome_told o) (sym is.is) (command_shown command is.tag)

  pub restart_told : (boot : ℕ) (m : EventTag) → account_of T (event.Restart boot) m ≡ account.Nothing
  restart_told boot Ignored = refl
  restart_told boot (Tagged t) = refl
