-- The marks that the replies show are those that the view and the policy give.
use Rattle.std.specs.Prelude.{◌≡◌, ℕ, Bool, true, false, not, ◌&&◌, ◌==◌, List, [], ◌∷◌, ◌++◌, Option, Some, None, Result, Ok, Err, if◌then◌else◌, cond}
use Rattle.std.proofs.Common.{refl, sym, ◌∙◌, ap, eqb-true, subst, true≢false}
use Rattle.creds.specs.declared.login_name.LoginName.{LoginName}
use Rattle.popline.specs.Cutting.{Cut, TooLong}
use Rattle.popline.specs.Cutting as cutting
use Rattle.popline.specs.Commands.{Command, Pass, Apop, Quit, ListOne, UidlOne, Top, Retr, Dele, command_of, keyword_of}
use Rattle.popline.specs.declared.command.LineFault.{LineFault}
use Rattle.popline.specs.declared.command.LineFault.TheVariants.{Unknown, Syntax}
use Rattle.popline.specs.declared.command.Keyword.{Keyword}
use Rattle.popline.specs.declared.command.Keyword.TheVariants as keyword
use Rattle.popline.specs.Replies.{Reply, Marked, NoSuchMessage, AlreadyMarked, DeniedBy, MaildropHas, BadArguments, ScanLine, UidLine, Message as MessageReply, TopPart}
use Rattle.mailtext.specs.Text.{lines_of, stuffed_lines, top_part}
use Rattle.policy.specs.Policy.{Policy}
use Rattle.vault.specs.Records.{Records, class_of, octets_of, uid_of}
use Rattle.vault.specs.declared.record.Message.{Message}
use Rattle.policy.specs.declared.decide.Decision.{Decision}
use Rattle.session.specs.View.{at_number, is_marked, referred, retrieval, removal, denying}
use Rattle.session.specs.declared.removals.Removals.TheVariants.{JudgedAtDele, JudgedAtQuit}
use Rattle.session.specs.declared.removals.Removals.{Removals}
use Rattle.office.specs.History.{Entry, Act, Tag, Done, Failed, NoMemory, Said, Says, Line, Open, Gone, Idle, Deposit, Administer, Restart, in_force}
use Rattle.office.specs.Sessions.{live, login, login_by, logs_in, view, marks, marks_after, marks_after_line, ends_session}
use Rattle.office.specs.Connections.{user, reading, judging}
use Rattle.office.specs.Told.{told, said_to}
use Rattle.office.specs.Replying.{LineState, InTransaction, transaction_at, state_at, said_to_line, reply_to_reading, is_allowed, is_permitted, when_permitted, refusal, deleted_if}
use Rattle.office.specs.Replying.{served_if, name_or_nobody}
use Rattle.office.specs.Laws.{MarksAreByView, marks_by_view, marks_by_act, marks_by_line, marks_unless_login, is_markable}
use Rattle.office.proofs.Laws.{live_side}
use Rattle.office.proofs.SmallLemmas.{no_some, quit_keeps}

picked_keeps : (o : Option Message) (b : Bool) (n : ℕ) (f : Message → Reply) (ms : List ℕ) → ((m : Message) → marks_after_line (Says (f m)) ms ≡ ms)
    → marks_after_line (Says (referred o b NoSuchMessage (AlreadyMarked n) f)) ms ≡ ms
picked_keeps None b n f ms h = refl
picked_keeps (Some m) true n f ms h = refl
picked_keeps (Some m) false n f ms h = h m

served_or_denied : (d : Decision) (reply : Reply) (ms : List ℕ) → marks_after_line (Says reply) ms ≡ ms → marks_after_line (Says (served_if d reply)) ms ≡ ms
served_or_denied d reply ms h = at d.allowed
  where
    at : (b : Bool) → marks_after_line (Says (if b then reply else DeniedBy d.rule)) ms ≡ ms
    at true = h
    at false = refl

served_keeps : (B : Records) (G : List Entry) (c n : ℕ) (reply : Message → Reply) → ((m : Message) → marks_after_line (Says (reply m)) (marks G c) ≡ marks G c)
    → marks_after_line (Says (referred (at_number (view B G c) n) (is_marked (marks G c) n) NoSuchMessage (AlreadyMarked n)
    (λ (m : Message). served_if (retrieval (in_force B G) (name_or_nobody (login G c)) m.class) (reply m)))) (marks G c) ≡ marks G c
served_keeps B G c n reply h =
    picked_keeps (at_number (view B G c) n) (is_marked (marks G c) n) n (λ (m : Message). served_if (retrieval (in_force B G) (name_or_nobody (login G c)) m.class) (reply m)) (marks G c)
    (λ m. served_or_denied (retrieval (in_force B G) (name_or_nobody (login G c)) m.class) (reply m) (marks G c) (h m))

decided : (b : Bool) (rule : List ℕ) (n : ℕ) (ms : List ℕ) → marks_after_line (Says (if b then Marked n else DeniedBy rule)) ms ≡ (if b then ms ++ n ∷ [] else ms)
decided true rule n ms = refl
decided false rule n ms = refl

dele_marks : (j : Removals) (o : Option Message) (b : Bool) (n : ℕ) (policy : Policy) (name : LoginName) (ms : List ℕ)
    → marks_after_line (Says (referred o b NoSuchMessage (AlreadyMarked n) (λ (m : Message). deleted_if j (removal policy name m.class) n))) ms ≡
    (if not b && is_markable j o policy name then ms ++ n ∷ [] else ms)
dele_marks j None true n policy name ms = refl
dele_marks j None false n policy name ms = refl
dele_marks j (Some m) true n policy name ms = refl
dele_marks JudgedAtQuit (Some m) false n policy name ms = refl
dele_marks JudgedAtDele (Some m) false n policy name ms = decided (removal policy name m.class).allowed (removal policy name m.class).rule n ms

by_command : (B : Records) (G : List Entry) (c : ℕ) (command : Command)
    → marks_after_line (Says (reply_to_reading (InTransaction (in_force B G) (transaction_at B G c)) (Ok command) Done)) (marks G c) ≡ marks_by_line B G c (Ok command) (marks G c)
by_command B G c Quit = quit_keeps (denying class_of (in_force B G) (name_or_nobody (login G c)) (marks G c) (view B G c)) (marks G c)
by_command B G c (ListOne n) = picked_keeps (at_number (view B G c) n) (is_marked (marks G c) n) n (λ m. ScanLine n (octets_of m)) (marks G c) (λ m. refl)
by_command B G c (UidlOne n) = picked_keeps (at_number (view B G c) n) (is_marked (marks G c) n) n (λ m. UidLine n (uid_of m)) (marks G c) (λ m. refl)
by_command B G c (Retr n) = served_keeps B G c n (λ (m : Message). MessageReply (octets_of m) (stuffed_lines (lines_of m.text))) (λ m. refl)
by_command B G c (Top n k) = served_keeps B G c n (λ (m : Message). TopPart (stuffed_lines (top_part (lines_of m.text) k))) (λ m. refl)
by_command B G c (Dele n) = dele_marks (judging G) (at_number (view B G c) n) (is_marked (marks G c) n) n (in_force B G) (name_or_nobody (login G c)) (marks G c)
by_command B G c _ = refl

syntax_keeps : (b : Bool) (ms : List ℕ) → marks_after_line (Says (when_permitted b BadArguments)) ms ≡ ms
syntax_keeps true ms = refl
syntax_keeps false ms = refl

by_reading : (B : Records) (G : List Entry) (c : ℕ) (r : Result Command LineFault)
    → marks_after_line (Says (reply_to_reading (InTransaction (in_force B G) (transaction_at B G c)) r Done)) (marks G c) ≡ marks_by_line B G c r (marks G c)
by_reading B G c (Ok command) = by_command B G c command
by_reading B G c (Err Unknown) = refl
by_reading B G c (Err (Syntax k)) = syntax_keeps (is_allowed k true false) (marks G c)

refusal_keeps : (b : Bool) (k : Keyword) (ms : List ℕ) → marks_after_line (Says (when_permitted b (refusal k))) ms ≡ ms
refusal_keeps true keyword.Quit ms = refl
refusal_keeps true _ ms = refl
refusal_keeps false k ms = refl

failed_keeps : (s : LineState) (r : Result Command LineFault) (ms : List ℕ) → marks_after_line (Says (reply_to_reading s r Failed)) ms ≡ ms
failed_keeps s (Ok command) ms = refusal_keeps (is_permitted s (keyword_of command)) (keyword_of command) ms
failed_keeps s (Err Unknown) ms = refl
failed_keeps s (Err (Syntax k)) ms = syntax_keeps (is_permitted s k) ms

same_if : (b : Bool) (xs ys : List ℕ) (zs : List ℕ) → (b ≡ true → xs ≡ ys) → cond b xs zs ≡ cond b ys zs
same_if true xs ys zs h = h refl
same_if false xs ys zs h = refl

kept_if : (b : Bool) (xs zs : List ℕ) → (b ≡ true → xs ≡ zs) → cond b xs zs ≡ zs
kept_if true xs zs h = h refl
kept_if false xs zs h = refl

by_cut : (B : Records) (G : List Entry) (c : ℕ) (x : Cut) → live G c ≡ true → marks_after_line (said_to_line B G c x Done) (marks G c) ≡ marks_by_line B G c (reading x) (marks G c)
by_cut B G c TooLong l = refl
by_cut B G c (cutting.Line octets) l = rw l (by_reading B G c (command_of octets))

failed_cut : (B : Records) (G : List Entry) (n : ℕ) (x : Cut) (ms : List ℕ) → marks_after_line (said_to_line B G n x Failed) ms ≡ ms
failed_cut B G n TooLong ms = refl
failed_cut B G n (cutting.Line octets) ms = failed_keeps (state_at B G n) (command_of octets) ms

by_act : (B : Records) (G : List Entry) (c : ℕ) (a : Act) (t : Tag) → live G c ≡ true
    → marks_after a (said_to B G a t) c (marks G c) ≡ marks_by_act B G c a t (marks G c)
by_act B G c (Line n x) Done l = same_if (n == c) (marks_after_line (said_to_line B G n x Done) (marks G c)) (marks_by_line B G c (reading x) (marks G c)) (marks G c)
    (λ e. subst (λ k. marks_after_line (said_to_line B G k x Done) (marks G c) ≡ marks_by_line B G c (reading x) (marks G c)) (sym (eqb-true n c e)) (by_cut B G c x l))
by_act B G c (Line n x) Failed l = kept_if (n == c) (marks_after_line (said_to_line B G n x Failed) (marks G c)) (marks G c) (λ e. failed_cut B G n x (marks G c))
by_act B G c (Line n x) NoMemory l = kept_if (n == c) (marks G c) (marks G c) (λ e. refl)
by_act B G c (Open n) t l = refl
by_act B G c (Gone n) t l = refl
by_act B G c (Idle n) t l = refl
by_act B G c (Deposit d class id text) t l = refl
by_act B G c (Administer command) t l = refl
by_act B G c (Restart boot host removals) t l = refl

login_marks : (r : Result Command LineFault) (s : Said) (u : Option LoginName) (name : LoginName) (ms : List ℕ) → logs_in r s u ≡ Some name → marks_after_line s ms ≡ []
login_marks (Ok (Pass password)) (Says (MaildropHas n m)) u name ms e = refl
login_marks (Ok (Apop who digest)) (Says (MaildropHas n m)) u name ms e = refl
login_marks _ _ u name ms e = absurd (no_some name e)

at_login : (b : Bool) (r : Result Command LineFault) (s : Said) (u : Option LoginName) (name : LoginName) (ms : List ℕ)
    → cond b (logs_in r s u) None ≡ Some name → cond b (marks_after_line s ms) ms ≡ []
at_login true r s u name ms e = login_marks r s u name ms e
at_login false r s u name ms e = absurd (no_some name e)

by_login : (a : Act) (s : Said) (c : ℕ) (u : Option LoginName) (name : LoginName) (ms : List ℕ) → login_by a s c u ≡ Some name → marks_after a s c ms ≡ []
by_login (Line n x) s c u name ms e = at_login (n == c) (reading x) s u name ms e
by_login (Open n) s c u name ms e = absurd (no_some name e)
by_login (Gone n) s c u name ms e = absurd (no_some name e)
by_login (Idle n) s c u name ms e = absurd (no_some name e)
by_login (Deposit d class id text) s c u name ms e = absurd (no_some name e)
by_login (Administer command) s c u name ms e = absurd (no_some name e)
by_login (Restart boot host removals) s c u name ms e = absurd (no_some name e)

-- the marks of an entry, if those of its front are the same
by_entry : (B : Records) (a : Act) (t : Tag) (G : List Entry) (c : ℕ) → (live G c ≡ true → marks G c ≡ marks_by_view B G c)
    → (o : Option LoginName) → login_by a (said_to B G a t) c (user G c) ≡ o → (o ≡ None → live G c ≡ true)
    → marks_after a (said_to B G a t) c (marks G c) ≡ marks_unless_login o (marks_by_act B G c a t (marks_by_view B G c))
by_entry B a t G c before (Some name) e l = by_login a (said_to B G a t) c (user G c) name (marks G c) e
by_entry B a t G c before None e l = by_act B G c a t (l refl) ∙ ap (λ ms. marks_by_act B G c a t ms) (before (l refl))

pub marks_are_by_view : MarksAreByView
marks_are_by_view B [] c l = absurd (true≢false (sym l))
marks_are_by_view B ((a, t) ∷ H) c l =
    by_entry B a t (told B H) c (marks_are_by_view B H c) (login_by a (said_to B (told B H) a t) c (user (told B H) c)) refl
    (live_side (ends_session a t (said_to B (told B H) a t) c) (login_by a (said_to B (told B H) a t) c (user (told B H) c)) (live (told B H) c) l).1
