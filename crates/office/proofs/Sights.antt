-- What a connection is sent is what its sights give.
use Rattle.std.specs.Prelude.{◌≡◌, ℕ, ◌+◌, Bool, true, false, not, ◌&&◌, ◌||◌, ◌==◌, List, [], ◌∷◌, ◌++◌, Option, Some, None, Result, Ok, Err, if◌then◌else◌, is_some}
use Rattle.std.proofs.Common.{refl, sym, ◌∙◌, ap, subst, eqb-true, eq-eqb}
use Rattle.std.specs.Option.{option_map}
use Rattle.creds.specs.Credential.{Shown, ByPass, ByApop, is_admitted}
use Rattle.creds.specs.declared.login_name.LoginName.{LoginName}
use Rattle.popline.specs.Cutting.{Cut, TooLong}
use Rattle.popline.specs.Cutting as cutting
use Rattle.popline.specs.Commands.{Command, Pass, Apop, command_of}
use Rattle.popline.specs.declared.command.LineFault.{LineFault}
use Rattle.popline.specs.declared.command.LineFault.TheVariants.{Unknown, Syntax}
use Rattle.popline.specs.Replies.{Reply, Greeting, MaildropHas, timestamp, WrongState}
use Rattle.policy.specs.Policy.{Policy, decide}
use Rattle.policy.specs.declared.decide.Decision.{Decision}
use Rattle.policy.specs.declared.rule.Action.TheVariants as to
use Rattle.vault.specs.Records.{Records, class_of}
use Rattle.vault.specs.declared.record.Message.{Message}
use Rattle.session.specs.View.{visible}
use Rattle.session.specs.declared.removals.Removals.{Removals}
use Rattle.office.specs.History.{Act, Open, Line, Gone, Idle, Deposit, Administer, Restart, Tag, Done, Failed, NoMemory, is_no_memory, Said, Silence, Says, Entry, in_force}
use Rattle.office.specs.Connections.{setting, judging, user, user_after_line, failures, is_failure, reading, is_quit, sent, octets_said}
use Rattle.office.specs.Sessions.{live, login, login_after, logs_in, ends_session, view_after, marks, marks_after_line, view, present}
use Rattle.office.specs.Replying.{Transaction, LineState, InAuthorization, InTransaction, login_asked, login_reply, logging_in, opening, name_or_nobody, reply_to, reply_to_reading}
use Rattle.office.specs.Replying.{said_to_line, transaction_at, maildrop_has}
use Rattle.office.specs.Told.{told, said_to}
use Rattle.office.specs.Sights.{Door, door, Sight, Opened, Gave, Ended, found, sight, sights, HiddenMailLeavesNoTrace}
use Rattle.office.proofs.SmallLemmas.{no_some}

-- ---- what a connection has of its own

record Own : Type 0 where
  octets : List ℕ
  user : Option LoginName
  failures : ℕ
  session : Option Transaction

abbrev session_if : Bool → Transaction → Option Transaction
session_if true v = Some v
session_if false v = None

abbrev own : Records → List Entry → ℕ → Own
own B G c = record { octets = sent G c; user = user G c; failures = failures G c; session = session_if (live G c) (transaction_at B G c) }

-- ---- the same by sights

abbrev without_session : Own → Own
without_session o = record { octets = o.octets; user = o.user; failures = o.failures; session = None }

-- what a login is answered, whatever name is asked for, at the door of its name
abbrev entering : (c failures : ℕ) → Policy → ℕ × List ℕ × Removals → Option Door → List Message → LoginName → Shown → Reply
entering c failures p s None ms name proof = WrongState
entering c failures p s (Some d) ms name proof = login_reply (is_admitted d.credential name.clerk (timestamp c s.0 s.1) proof) failures
    (decide p name.clerk name.maildrop [] to.Open) d.exists d.locked ms

abbrev state_by : Option Transaction → Option LoginName → ℕ → ℕ → Policy → ℕ × List ℕ × Removals → Option Door → List Message → LineState
state_by (Some v) user failures c p s d ms = InTransaction p v
state_by None user failures c p s d ms = InAuthorization user (entering c failures p s d ms)

abbrev said_by : Own → ℕ → Cut → Tag → Policy → ℕ × List ℕ × Removals → Option Door → List Message → Said
said_by o c x NoMemory p s d ms = Silence
said_by o c x t p s d ms = Says (reply_to (state_by o.session o.user o.failures c p s d ms) x t)

abbrev session_goes_on : Said → Option Transaction → Option Transaction
session_goes_on said None = None
session_goes_on said (Some v) = Some (record { name = v.name; removals = v.removals; marks = marks_after_line said v.marks; view = v.view })

abbrev session_after : (ends : Bool) (logged_in : Option LoginName) → Removals → List Message → Said → Option Transaction → Option Transaction
session_after true o j ms said before = None
session_after false (Some name) j ms said before = Some (record { name = name; removals = j; marks = []; view = ms })
session_after false None j ms said before = session_goes_on said before

abbrev own_after : Own → Cut → Tag → Said → Removals → List Message → Own
own_after o x t said j ms = record {
  octets = o.octets ++ octets_said said;
  user = user_after_line (reading x) said o.user;
  failures = if is_failure said then o.failures + 1 else o.failures;
  session = session_after (is_quit (reading x) || is_no_memory t) (logs_in (reading x) said o.user) j ms said o.session;
}

abbrev greeted : ℕ → ℕ × List ℕ × Removals → Own
greeted c s = record { octets = octets_said (Says (Greeting c s.0 s.1)); user = None; failures = 0; session = None }

abbrev by_sights : ℕ → List Sight → Own
by_sights c [] = record { octets = []; user = None; failures = 0; session = None }
by_sights c (Opened s ∷ ss) = greeted c s
by_sights c (Gave x t p s d ms ∷ ss) = own_after (by_sights c ss) x t (said_by (by_sights c ss) c x t p s d ms) s.2 ms
by_sights c (Ended ∷ ss) = without_session (by_sights c ss)

-- ---- a login

-- what it finds counts only if it is accepted
module _ (r : Result Command LineFault) (u : Option LoginName) (name : LoginName) (F : LoginName → List Message) (accepts : (n m : ℕ) → logs_in r (Says (MaildropHas n m)) u ≡ Some name) where
  abbrev FindsSame : Reply → (List Message → Reply) → Type 0
  FindsSame reply by = reply ≡ by (view_after (logs_in r (Says reply) u) F [])

  door_alike : (a : Bool) (failures : ℕ) (o : Decision) (b there locked : Bool) → o.allowed ≡ b
      → FindsSame (login_reply a failures o there locked (F name)) (λ ms. login_reply a failures o there locked ms)
  door_alike false failures o b there locked e = refl
  door_alike true failures o false there locked e = rw e refl
  door_alike true failures o true false locked e = rw e refl
  door_alike true failures o true true true e = rw e refl
  door_alike true failures o true true false e =
      let k = accepts _ _ in
      rw e (ap maildrop_has (sym (ap (λ l. view_after l F []) k)))

module _ (B : Records) (G : List Entry) (c : ℕ) where
  abbrev finds : LoginName → List Message
  finds name = visible class_of (in_force B G) name (present B G name.maildrop)

  abbrev SameReply : Result Command LineFault → Option LoginName → Tag → Type 0
  SameReply r u t = reply_to_reading (InAuthorization u (logging_in B G c)) r t ≡ reply_to_reading (InAuthorization u (entering c (failures G c) (in_force B G) (setting G)
      (option_map (door B G) (login_asked r u)) (found B G (logs_in r (Says (reply_to_reading (InAuthorization u (logging_in B G c)) r t)) u)))) r t

  pass_alike : (password : List ℕ) (u : Option LoginName) → SameReply (Ok (Pass password)) u Done
  pass_alike password None = refl
  pass_alike password (Some name) =
      door_alike (Ok (Pass password)) (Some name) name finds (λ n m. refl)
      (is_admitted (door B G name).credential name.clerk (timestamp c (setting G).0 (setting G).1) (ByPass password)) (failures G c)
      (opening B G name) (opening B G name).allowed (door B G name).exists (door B G name).locked refl

  apop_alike : (name : LoginName) (digest : List ℕ) (u : Option LoginName) → SameReply (Ok (Apop name digest)) u Done
  apop_alike name digest u =
      door_alike (Ok (Apop name digest)) u name finds (λ n m. refl) (is_admitted (door B G name).credential name.clerk (timestamp c (setting G).0 (setting G).1) (ByApop digest)) (failures G c)
      (opening B G name) (opening B G name).allowed (door B G name).exists (door B G name).locked refl

  done_alike : (r : Result Command LineFault) (u : Option LoginName) → SameReply r u Done
  done_alike (Ok (Pass password)) u = pass_alike password u
  done_alike (Ok (Apop name digest)) u = apop_alike name digest u
  done_alike (Ok _) u = refl
  done_alike (Err Unknown) u = refl
  done_alike (Err (Syntax k)) u = refl

  failed_alike : (r : Result Command LineFault) (u : Option LoginName) → SameReply r u Failed
  failed_alike (Ok command) u = refl
  failed_alike (Err Unknown) u = refl
  failed_alike (Err (Syntax k)) u = refl

  abbrev SaidSame : Cut → Tag → Bool → Type 0
  SaidSame x t l =
      let said = Says (reply_to (if l then InTransaction (in_force B G) (transaction_at B G c) else InAuthorization (user G c) (logging_in B G c)) x t) in
      said ≡ Says (reply_to (state_by (session_if l (transaction_at B G c)) (user G c) (failures G c) c (in_force B G) (setting G)
      (option_map (door B G) (login_asked (reading x) (user G c))) (found B G (logs_in (reading x) said (user G c)))) x t)

  says_alike : (x : Cut) (l : Bool) → SaidSame x Done l × SaidSame x Failed l
  says_alike TooLong l = (refl, refl)
  says_alike (cutting.Line octets) true = (refl, refl)
  says_alike (cutting.Line octets) false = (ap (λ r. Says r) (done_alike (command_of octets) (user G c)), ap (λ r. Says r) (failed_alike (command_of octets) (user G c)))

  -- what is said to a line is what its sight gives
  said_alike : (x : Cut) (t : Tag) → said_to_line B G c x t ≡ said_by (own B G c) c x t (in_force B G) (setting G)
      (option_map (door B G) (login_asked (reading x) (user G c))) (found B G (logs_in (reading x) (said_to_line B G c x t) (user G c)))
  said_alike x NoMemory = refl
  said_alike x Done = (says_alike x (live G c)).0
  said_alike x Failed = (says_alike x (live G c)).1

-- ---- an entry

-- a login leaves no marks
login_marks : (r : Result Command LineFault) (s : Said) (u : Option LoginName) (name : LoginName) (ms : List ℕ) → logs_in r s u ≡ Some name → marks_after_line s ms ≡ []
login_marks (Ok (Pass password)) (Says (MaildropHas n m)) u name ms e = refl
login_marks (Ok (Apop who digest)) (Says (MaildropHas n m)) u name ms e = refl
login_marks _ _ u name ms e = absurd (no_some name e)

session_alike : (ends : Bool) (o : Option LoginName) (l : Bool) (lg : Option LoginName) (j : Removals) (ks : List ℕ) (said : Said) (F : LoginName → List Message) (vs : List Message)
    → ((name : LoginName) → o ≡ Some name → marks_after_line said ks ≡ [])
    → session_if (not ends && (is_some o || l)) (record { name = name_or_nobody (login_after false o lg); removals = j; marks = marks_after_line said ks; view = view_after o F vs })
    ≡ session_after ends o j (view_after o F []) said (session_if l (record { name = name_or_nobody lg; removals = j; marks = ks; view = vs }))
session_alike true o l lg j ks said F vs h = refl
session_alike false (Some name) l lg j ks said F vs h = ap (λ ms. Some (record { name = name; removals = j; marks = ms; view = F name })) (h name refl)
session_alike false None true lg j ks said F vs h = refl
session_alike false None false lg j ks said F vs h = refl

-- an act that changes nothing of a connection but, maybe, ends its session
ended_alike : (c : ℕ) (ends l : Bool) (v : Transaction) (octets : List ℕ) (u : Option LoginName) (f : ℕ) (ss : List Sight)
    → record { octets = octets; user = u; failures = f; session = session_if l v } ≡ by_sights c ss
    → record { octets = octets; user = u; failures = f; session = session_if (not ends && (false || l)) v } ≡ by_sights c (if ends then Ended ∷ ss else ss)
ended_alike c true l v octets u f ss h = ap without_session h
ended_alike c false l v octets u f ss h = h

module _ (B : Records) (G : List Entry) (c : ℕ) (ss : List Sight) (before : own B G c ≡ by_sights c ss) where
  opened_alike : (n : ℕ) (t : Tag) (b : Bool) → (n == c) ≡ b → own B (record { act = Open n; tag = t; said = said_to B G (Open n) t } ∷ G) c ≡ by_sights c (if b then Opened (setting G) ∷ [] else ss)
  opened_alike n t true e = rw e (ap (λ k. greeted k (setting G)) (eqb-true n c e))
  opened_alike n t false e = rw e before

  -- its own line
  line_alike : (x : Cut) (t : Tag) → own B (record { act = Line c x; tag = t; said = said_to_line B G c x t } ∷ G) c ≡ by_sights c (sight B G c x t (said_to_line B G c x t) ∷ ss)
  line_alike x t =
      let said = said_to_line B G c x t in
      let one = eq-eqb c c refl in
      let ms = found B G (logs_in (reading x) said (user G c)) in
      let asked = option_map (door B G) (login_asked (reading x) (user G c)) in
      let session = session_alike (is_quit (reading x) || is_no_memory t) (logs_in (reading x) said (user G c)) (live G c) (login G c) (judging G) (marks G c) said (finds B G c) (view B G c)
      (λ name e. login_marks (reading x) said (user G c) name (marks G c) e) in
      rw one (ap (λ s. record {
        octets = sent G c ++ octets_said said;
        user = user_after_line (reading x) said (user G c);
        failures = if is_failure said then failures G c + 1 else failures G c;
        session = s;
      }) session)
      ∙ (ap (λ s. own_after (own B G c) x t s (judging G) ms) (said_alike B G c x t)
      ∙ ap (λ o. own_after o x t (said_by o c x t (in_force B G) (setting G) asked ms) (judging G) ms) before)

  other_line : (n : ℕ) (x : Cut) (t : Tag) → (n == c) ≡ false → own B (record { act = Line n x; tag = t; said = said_to_line B G n x t } ∷ G) c ≡ by_sights c ss
  other_line n x t e = rw e before

own_by_sights : (B : Records) (H : List (Act × Tag)) (c : ℕ) → own B (told B H) c ≡ by_sights c (sights B (told B H) c)
own_by_sights B [] c = refl
own_by_sights B ((Open n, t) ∷ H) c = opened_alike B (told B H) c (sights B (told B H) c) (own_by_sights B H c) n t (n == c) refl
own_by_sights B ((Line n x, t) ∷ H) c = at (own_by_sights B H c) (n == c) refl
  where
    at : own B (told B H) c ≡ by_sights c (sights B (told B H) c) → (b : Bool) → (n == c) ≡ b → own B (record { act = Line n x; tag = t; said = said_to_line B (told B H) n x t } ∷ told B H) c
        ≡ by_sights c (if b then sight B (told B H) c x t (said_to_line B (told B H) n x t) ∷ sights B (told B H) c else sights B (told B H) c)
    at before true e = subst (λ k. own B (record { act = Line k x; tag = t; said = said_to_line B (told B H) k x t } ∷ told B H) c
        ≡ by_sights c (sight B (told B H) c x t (said_to_line B (told B H) k x t) ∷ sights B (told B H) c)) (sym (eqb-true n c e))
        (line_alike B (told B H) c (sights B (told B H) c) before x t)
    at before false e = other_line B (told B H) c (sights B (told B H) c) before n x t e
own_by_sights B ((Gone n, t) ∷ H) c =
    ended_alike c (n == c) (live (told B H) c) (transaction_at B (told B H) c) (sent (told B H) c) (user (told B H) c) (failures (told B H) c) (sights B (told B H) c) (own_by_sights B H c)
own_by_sights B ((Idle n, t) ∷ H) c =
    ended_alike c (n == c) (live (told B H) c) (transaction_at B (told B H) c) (sent (told B H) c) (user (told B H) c) (failures (told B H) c) (sights B (told B H) c) (own_by_sights B H c)
own_by_sights B ((Deposit d class id text, t) ∷ H) c = own_by_sights B H c
own_by_sights B ((Administer command, t) ∷ H) c =
    ended_alike c (ends_session (Administer command) t (said_to B (told B H) (Administer command) t) c) (live (told B H) c) (transaction_at B (told B H) c) (sent (told B H) c)
    (user (told B H) c) (failures (told B H) c) (sights B (told B H) c) (own_by_sights B H c)
own_by_sights B ((Restart boot host removals, t) ∷ H) c = ap without_session (own_by_sights B H c)

pub hidden_mail_leaves_no_trace : HiddenMailLeavesNoTrace
hidden_mail_leaves_no_trace B H A K c e =
    ap (λ (o : Own). o.octets) (own_by_sights B H c)
    ∙ (ap (λ ss. (by_sights c ss).octets) e
    ∙ ap (λ (o : Own). o.octets) (sym (own_by_sights A K c)))
