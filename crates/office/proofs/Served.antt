-- Over every history each message's reply answers a line at whose front the policy in force let that clerk read that message's class.
use Rattle.std.specs.Prelude.{◌≡◌, ℕ, Bool, true, false, not, nat_le, List, [], ◌∷◌, Option, Some, None, Result, Ok, Err, is_some, if◌then◌else◌}
use Rattle.std.proofs.Common.{refl, sym, ◌∙◌, ap, true≢false}
use Rattle.creds.specs.declared.login_name.LoginName.{LoginName}
use Rattle.creds.specs.Credential.{Shown, ByPass, ByApop, is_admitted}
use Rattle.popline.specs.Cutting.{Cut, TooLong}
use Rattle.popline.specs.Cutting as cutting
use Rattle.popline.specs.Commands.{Command, Pass, Apop, Quit, ListOne, UidlOne, Top, Retr, Dele, command_of, keyword_of}
use Rattle.popline.specs.declared.command.LineFault.{LineFault}
use Rattle.popline.specs.declared.command.LineFault.TheVariants.{Unknown, Syntax}
use Rattle.popline.specs.declared.command.Keyword.{Keyword}
use Rattle.popline.specs.declared.command.Keyword.TheVariants as keyword
use Rattle.popline.specs.Replies.{Reply, LineTooLong, UnknownCommand, LoginFailed, LoginFailedClosing, NoSuchMaildrop, InUse, NoSuchMessage, AlreadyMarked, DeniedBy, Marked}
use Rattle.popline.specs.Replies.{BadArguments, ScanLine, UidLine, Message as MessageReply, TopPart}
use Rattle.mailtext.specs.Text.{lines_of, stuffed_lines, top_part}
use Rattle.policy.specs.declared.decide.Decision.{Decision}
use Rattle.vault.specs.Records.{Records, class_of, octets_of, uid_of}
use Rattle.vault.specs.declared.record.Message.{Message}
use Rattle.session.specs.View.{at_number, is_marked, referred, retrieval, removal, denying, visible}
use Rattle.session.specs.declared.removals.Removals.TheVariants.{JudgedAtDele, JudgedAtQuit}
use Rattle.session.specs.declared.removals.Removals.{Removals}
use Rattle.office.specs.History.{Entry, Act, Tag, Done, Failed, NoMemory, Says, Line, Open, Gone, Idle, Deposit, Administer, Restart, in_force, credential, exists}
use Rattle.office.specs.Sessions.{live, login, login_after, login_by, ends_session, in_session, when_live, holder, view, marks, present}
use Rattle.office.specs.Connections.{judging, user, opens, failures, has_message}
use Rattle.office.specs.Told.{told, said_to, answers_if_done, deposited, administered}
use Rattle.office.specs.Answers.{Answer}
use Rattle.policy.specs.Policy.{Policy}
use Rattle.office.specs.Replying.{LineState, InAuthorization, InTransaction, transaction_at, state_at, authorization_says, session_says, said_to_line, reply_to_reading, is_allowed}
use Rattle.office.specs.Replying.{is_permitted, when_permitted, obeyed, refusal, deleted_if, served_if, quit_says, name_or_nobody, logging_in, login_failed, opening, stamp}
use Rattle.office.specs.Replying.{maildrop_has}
use Rattle.office.specs.Served.{IsReplyWith, IsServed, IsServedTo, ServedIsAllowed}
use Rattle.office.proofs.Laws.{live_side, no_opening}

-- a reply without a message's octets
abbrev Plain : Reply → Type 0
Plain reply = has_message (Says reply) ≡ false

not_plain : {A : Type 0} (reply : Reply) → Plain reply → has_message (Says reply) ≡ true → A
not_plain reply none some = absurd (true≢false (sym some ∙ none))

-- ---- who is in session is logged in

named_after : (opened : Bool) (o before : Option LoginName) → opened ≡ false → (o ≡ None → before ≡ Some (name_or_nobody before))
    → login_after opened o before ≡ Some (name_or_nobody (login_after opened o before))
named_after true o before e h = absurd (true≢false e)
named_after false None before e h = h refl
named_after false (Some name) before e h = refl

live_is_named : (B : Records) (H : List (Act × Tag)) (c : ℕ) → live (told B H) c ≡ true → login (told B H) c ≡ Some (name_or_nobody (login (told B H) c))
live_is_named B [] c h = absurd (true≢false (sym h))
live_is_named B ((a, t) ∷ H) c h =
    let G = told B H in
    let said = said_to B G a t in
    let o = login_by a said c (user G c) in
    let side = live_side (ends_session a t said c) o (live G c) h in
    named_after (opens a c) o (login G c) (no_opening a t said c side.0) (λ none. live_is_named B H c (side.1 none))

-- ---- replies without a message

login_is_plain : (a b c d : Bool) (o : Decision) (n : ℕ) (found : List Message)
    → Plain (if a then login_failed n else if b then DeniedBy o.rule else if c then NoSuchMaildrop else if d then InUse else maildrop_has found)
login_is_plain true b c d o n found = failed_is_plain n
  where
    failed_is_plain : (n : ℕ) → Plain (login_failed n)
    failed_is_plain n = at (nat_le 2 n)
      where
        at : (b : Bool) → Plain (if b then LoginFailedClosing else LoginFailed)
        at true = refl
        at false = refl
login_is_plain false true c d o n found = refl
login_is_plain false false true d o n found = refl
login_is_plain false false false true o n found = refl
login_is_plain false false false false o n found = refl

entering_is_plain : (B : Records) (G : List Entry) (c : ℕ) (name : LoginName) (p : Shown) → Plain (logging_in B G c name p)
entering_is_plain B G c name p =
    login_is_plain (not (is_admitted (credential B G name.clerk) name.clerk (stamp G c) p)) (not (opening B G name).allowed) (not (exists B G name.maildrop))
    (is_some (holder G name.maildrop)) (opening B G name) (failures G c) (visible class_of (in_force B G) name (present B G name.maildrop))

refusal_is_plain : (k : Keyword) → Plain (refusal k)
refusal_is_plain keyword.Quit = refl
refusal_is_plain _ = refl

quit_is_plain : (o : Option (List ℕ)) → Plain (quit_says o)
quit_is_plain None = refl
quit_is_plain (Some rule) = refl

authorization_is_plain : (user : Option LoginName) (login : LoginName → Shown → Reply) → ((name : LoginName) (proof : Shown) → Plain (login name proof)) → (command : Command)
    → Plain (authorization_says user login command)
authorization_is_plain user login h (Pass password) = h (name_or_nobody user) (ByPass password)
authorization_is_plain user login h (Apop name digest) = h name (ByApop digest)
authorization_is_plain user login h _ = refl

permitted_is_plain : (b : Bool) (reply : Reply) → Plain reply → Plain (when_permitted b reply)
permitted_is_plain true reply h = h
permitted_is_plain false reply h = refl

picked_is_plain : (o : Option Message) (b : Bool) (n : ℕ) (reply : Message → Reply) → ((m : Message) → Plain (reply m)) → Plain (referred o b NoSuchMessage (AlreadyMarked n) reply)
picked_is_plain None b n reply h = refl
picked_is_plain (Some m) true n reply h = refl
picked_is_plain (Some m) false n reply h = h m

deleted_is_plain : (j : Removals) (d : Decision) (n : ℕ) → Plain (deleted_if j d n)
deleted_is_plain JudgedAtQuit d n = refl
deleted_is_plain JudgedAtDele d n = at d.allowed
  where
    at : (b : Bool) → Plain (if b then Marked n else DeniedBy d.rule)
    at true = refl
    at false = refl

-- ---- a RETR or a TOP

served_so : (B : Records) (G : List Entry) (c n : ℕ) (r : Result Command LineFault) (name : LoginName) (m : Message) (reply : Reply)
    → in_session G c ≡ Some name → at_number (view B G c) n ≡ Some m → is_marked (marks G c) n ≡ false → IsReplyWith r n m reply
    → (d : Decision) → retrieval (in_force B G) name m.class ≡ d → (b : Bool) → d.allowed ≡ b
    → has_message (Says (if b then reply else DeniedBy d.rule)) ≡ true → IsServed B G c r (if b then reply else DeniedBy d.rule)
served_so B G c n r name m reply session seen unmarked is d judged true e h =
    record { name = name; session = session; number = n; message = m; seen = seen; unmarked = unmarked; allowed = ap (λ (x : Decision). x.allowed) judged ∙ e; octets = is }
served_so B G c n r name m reply session seen unmarked is d judged false e h = not_plain (DeniedBy d.rule) refl h

picked_so : (B : Records) (G : List Entry) (c n : ℕ) (r : Result Command LineFault) (name : LoginName) (reply : Message → Reply)
    → in_session G c ≡ Some name → ((m : Message) → IsReplyWith r n m (reply m))
    → (o : Option Message) → at_number (view B G c) n ≡ o → (b : Bool) → is_marked (marks G c) n ≡ b
    → has_message (Says (referred o b NoSuchMessage (AlreadyMarked n) (λ (m : Message). served_if (retrieval (in_force B G) name m.class) (reply m)))) ≡ true
    → IsServed B G c r (referred o b NoSuchMessage (AlreadyMarked n) (λ (m : Message). served_if (retrieval (in_force B G) name m.class) (reply m)))
picked_so B G c n r name reply session is None seen b marked h = not_plain NoSuchMessage refl h
picked_so B G c n r name reply session is (Some m) seen true marked h = not_plain (AlreadyMarked n) refl h
picked_so B G c n r name reply session is (Some m) seen false marked h =
    let d = retrieval (in_force B G) name m.class in
    served_so B G c n r name m (reply m) session seen marked (is m) d refl d.allowed refl h

-- ---- a line

-- a command whose reply has no message
plainly : (B : Records) (G : List Entry) (c : ℕ) (r : Result Command LineFault) (b : Bool) (reply : Reply) → Plain reply
    → has_message (Says (when_permitted b reply)) ≡ true → IsServed B G c r (when_permitted b reply)
plainly B G c r b reply none h = not_plain (when_permitted b reply) (permitted_is_plain b reply none) h

-- a session's command
module _ (B : Records) (G : List Entry) (c : ℕ) (session : in_session G c ≡ Some (name_or_nobody (login G c))) where
  abbrev policy : Policy
  policy = in_force B G

  abbrev who : LoginName
  who = name_or_nobody (login G c)

  abbrev Serves : Command → Type 0
  Serves command = has_message (Says (when_permitted (is_allowed (keyword_of command) true false) (session_says policy (transaction_at B G c) command))) ≡ true
      → IsServed B G c (Ok command) (when_permitted (is_allowed (keyword_of command) true false) (session_says policy (transaction_at B G c) command))

  picked : (n : ℕ) (r : Result Command LineFault) (reply : Message → Reply) → ((m : Message) → IsReplyWith r n m (reply m))
      → has_message (Says (referred (at_number (view B G c) n) (is_marked (marks G c) n) NoSuchMessage (AlreadyMarked n) (λ (m : Message). served_if (retrieval policy who m.class) (reply m)))) ≡ true
      → IsServed B G c r (referred (at_number (view B G c) n) (is_marked (marks G c) n) NoSuchMessage (AlreadyMarked n) (λ (m : Message). served_if (retrieval policy who m.class) (reply m)))
  picked n r reply is h = picked_so B G c n r who reply session is (at_number (view B G c) n) refl (is_marked (marks G c) n) refl h

  none_picked : (command : Command) (n : ℕ) (reply : Message → Reply) → ((m : Message) → Plain (reply m))
      → has_message (Says (referred (at_number (view B G c) n) (is_marked (marks G c) n) NoSuchMessage (AlreadyMarked n) reply)) ≡ true
      → IsServed B G c (Ok command) (referred (at_number (view B G c) n) (is_marked (marks G c) n) NoSuchMessage (AlreadyMarked n) reply)
  none_picked command n reply none h = not_plain _ (picked_is_plain (at_number (view B G c) n) (is_marked (marks G c) n) n reply none) h

  by_command : (command : Command) → Serves command
  by_command (Retr n) h = picked n (Ok (Retr n)) (λ (m : Message). MessageReply (octets_of m) (stuffed_lines (lines_of m.text))) (λ m. (refl, refl)) h
  by_command (Top n k) h = picked n (Ok (Top n k)) (λ (m : Message). TopPart (stuffed_lines (top_part (lines_of m.text) k))) (λ m. (refl, refl)) h
  by_command (ListOne n) h = none_picked (ListOne n) n (λ m. ScanLine n (octets_of m)) (λ m. refl) h
  by_command (UidlOne n) h = none_picked (UidlOne n) n (λ m. UidLine n (uid_of m)) (λ m. refl) h
  by_command (Dele n) h = none_picked (Dele n) n (λ (m : Message). deleted_if (judging G) (removal policy who m.class) n) (λ m. deleted_is_plain (judging G) (removal policy who m.class) n) h
  by_command Quit h = not_plain _ (quit_is_plain (denying class_of policy who (marks G c) (view B G c))) h
  by_command _ h = absurd (true≢false (sym h))

module _ (B : Records) (H : List (Act × Tag)) (c : ℕ) where
  abbrev G : List Entry
  G = told B H

  in_state : (command : Command) (b : Bool) → live G c ≡ b → (s : LineState) → s ≡ (if b then InTransaction (in_force B G) (transaction_at B G c) else InAuthorization (user G c) (logging_in B G c))
      → has_message (Says (when_permitted (is_permitted s (keyword_of command)) (obeyed s command))) ≡ true
      → IsServed B G c (Ok command) (when_permitted (is_permitted s (keyword_of command)) (obeyed s command))
  in_state command true e s is = rw is (by_command B G c (ap (λ b. when_live b (login G c)) e ∙ live_is_named B H c e) command)
  in_state command false e s is = rw is (plainly B G c (Ok command) (is_allowed (keyword_of command) false (is_some (user G c))) (authorization_says (user G c) (logging_in B G c) command)
      (authorization_is_plain (user G c) (logging_in B G c) (entering_is_plain B G c) command))

  by_reading : (r : Result Command LineFault) → has_message (Says (reply_to_reading (state_at B G c) r Done)) ≡ true → IsServed B G c r (reply_to_reading (state_at B G c) r Done)
  by_reading (Ok command) h = in_state command (live G c) refl (state_at B G c) refl h
  by_reading (Err Unknown) h = not_plain UnknownCommand refl h
  by_reading (Err (Syntax k)) h = plainly B G c (Err (Syntax k)) (is_permitted (state_at B G c) k) BadArguments refl h

  -- if the store refused
  by_refusal : (r : Result Command LineFault) → has_message (Says (reply_to_reading (state_at B G c) r Failed)) ≡ true → IsServed B G c r (reply_to_reading (state_at B G c) r Failed)
  by_refusal (Ok command) h = plainly B G c (Ok command) (is_permitted (state_at B G c) (keyword_of command)) (refusal (keyword_of command)) (refusal_is_plain (keyword_of command)) h
  by_refusal (Err Unknown) h = not_plain UnknownCommand refl h
  by_refusal (Err (Syntax k)) h = plainly B G c (Err (Syntax k)) (is_permitted (state_at B G c) k) BadArguments refl h

by_line : (B : Records) (H : List (Act × Tag)) (c : ℕ) (x : Cut) (t : Tag) → IsServedTo B (told B H) (Line c x) (said_to_line B (told B H) c x t)
by_line B H c x NoMemory = refl
by_line B H c TooLong Done = λ h. not_plain LineTooLong refl h
by_line B H c TooLong Failed = λ h. not_plain LineTooLong refl h
by_line B H c (cutting.Line octets) Done = λ h. by_reading B H c (command_of octets) h
by_line B H c (cutting.Line octets) Failed = λ h. by_refusal B H c (command_of octets) h

-- an answer has no message's octets
answer_is_plain : (t : Tag) (answer : Answer) → has_message (answers_if_done t answer) ≡ false
answer_is_plain Done answer = refl
answer_is_plain _ answer = refl

by_act : (B : Records) (H : List (Act × Tag)) (a : Act) (t : Tag) → IsServedTo B (told B H) a (said_to B (told B H) a t)
by_act B H (Line c x) t = by_line B H c x t
by_act B H (Open c) t = refl
by_act B H (Gone c) t = refl
by_act B H (Idle c) t = refl
by_act B H (Deposit d class id text) t = answer_is_plain t (deposited B (told B H) d class id text)
by_act B H (Administer command) t = answer_is_plain t (administered B (told B H) command)
by_act B H (Restart boot host removals) t = refl

pub served_is_allowed : ServedIsAllowed
served_is_allowed B [] = tt
served_is_allowed B ((a, t) ∷ H) = (by_act B H a t, served_is_allowed B H)
