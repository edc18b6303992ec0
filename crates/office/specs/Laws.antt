-- Laws over every history: their statements.
use Rattle.std.specs.Prelude.{◌≡◌, ℕ, Bool, true, false, not, ◌&&◌, ◌⊎◌, ◌==◌, List, [], ◌∷◌, ◌++◌}
use Rattle.std.specs.Prelude.{⊤, Option, Some, None, Result, Ok, Err, if◌then◌else◌}
use Rattle.std.specs.Str.{bytes_eq}
use Rattle.popline.specs.ReplyForm.{IsWellFormed}
use Rattle.creds.specs.declared.login_name.LoginName.{LoginName}
use Rattle.popline.specs.Commands.{Command, Capa, User, Pass, Apop, Quit, Stat, ListAll, ListOne}
use Rattle.popline.specs.Commands.{UidlAll, UidlOne, Retr, Top, Dele, Rset, Noop}
use Rattle.popline.specs.declared.command.LineFault.{LineFault}
use Rattle.creds.specs.Uid.{uid_text}
use Rattle.policy.specs.Policy.{Policy, are_distinct}
use Rattle.session.specs.View.{is_marked, at_number, may_remove}
use Rattle.vault.specs.Records.{Records, IsSound, same_uid, same_id, Agree}
use Rattle.vault.specs.declared.record.Message.{Message}
use Rattle.vault.specs.declared.record.Receipt.{Receipt}
use Rattle.popline.specs.Replies.{Reply, Greeting, timestamp}
use Rattle.office.specs.History.{Act, Open, Line, Tag, Said, Says, Silence, Answers, Entry, Done}
use Rattle.office.specs.History.{in_force, deposits}
use Rattle.office.specs.Sessions.{holds, in_session, live, login, login_by, marks, view, present}
use Rattle.office.specs.Sessions.{records}
use Rattle.office.specs.Connections.{user, reading, judging}
use Rattle.office.specs.Told.{told}
use Rattle.office.specs.Replying.{name_or_nobody}
use Rattle.session.specs.declared.removals.Removals.{Removals}
use Rattle.session.specs.declared.removals.Removals.TheVariants.{JudgedAtDele, JudgedAtQuit}
use Rattle.office.specs.Events.{Event, EventTag, Limits, Log, Trace, Tagged}
use Rattle.office.specs.Trace.{history}
use Rattle.office.specs.Formed.{are_formed}
use Rattle.office.specs.Taken.{IsAdmitted, AreAdmitted, IsSentExactly}
use Rattle.office.specs.Events as event

-- x is an element of the list
abbrev pub In : {A : Type 0} → A → List A → Type 0
In x [] = ⊥
In x (y ∷ ys) = (x ≡ y) ⊎ In x ys

-- a maildrop has at most one holder
abbrev pub OneHolder : Type 0
OneHolder = (B : Records) (H : List (Act × Tag)) (d : List ℕ) (c q : ℕ)
    → holds (told B H) d c ≡ true → holds (told B H) d q ≡ true → c ≡ q

-- while a session lives, its messages stay in the maildrop
abbrev pub ViewStaysPresent : Type 0
ViewStaysPresent = (B : Records) (H : List (Act × Tag)) (c : ℕ) (name : LoginName)
    → in_session (told B H) c ≡ Some name
    → (m : Message) → In m (view B (told B H) c) → In m (present B (told B H) name.maildrop)

-- no two accepted deposits into a maildrop's name have one unique-id
abbrev pub UniqueIdsAreUnique : Type 0
UniqueIdsAreUnique = (B : Records) → IsSound B → (H : List (Act × Tag)) (d : List ℕ)
    → are_distinct same_uid (deposits B (told B H) d) ≡ true

-- a deposit's unique-id as it is written
abbrev pub uid_text_of : Receipt → List ℕ
uid_text_of r = uid_text (record { class = r.class; k = r.k })

-- two deposits with one unique-id as it is written
abbrev pub same_uid_text : Receipt → Receipt → Bool
same_uid_text r s = bytes_eq (uid_text_of r) (uid_text_of s)

-- over sound records and events of their types, no two accepted deposits into a maildrop's name
-- have one unique-id as it is written
abbrev pub UniqueIdTextsDiffer : Type 0
UniqueIdTextsDiffer = (T : Trace) → IsSound T.base → are_formed T.log ≡ true → (d : List ℕ)
    → are_distinct same_uid_text (deposits T.base (history T) d) ≡ true

-- no two accepted deposits into a maildrop's name have one id, whatever came between
abbrev pub DepositIdsActOnce : Type 0
DepositIdsActOnce = (B : Records) → IsSound B → (H : List (Act × Tag)) (d : List ℕ)
    → are_distinct same_id (deposits B (told B H) d) ≡ true

-- ---- greetings

-- the boot numbers that a trace's openings and restarts set, the newest first
abbrev pub boots_after : Event → EventTag → List ℕ → List ℕ
boots_after (event.Start host boot limits) (Tagged t) before = boot ∷ before
boots_after (event.Restart boot) (Tagged t) before = boot ∷ before
boots_after _ m before = before

-- the boot numbers of all openings and restarts of an office
abbrev pub boots : Log → List ℕ
boots [] = []
boots ((e, m) ∷ T) = boots_after e m (boots T)

-- each opening of a connection adds its greeting's timestamp
abbrev pub stamps_after : Act → Said → List (List ℕ) → List (List ℕ)
stamps_after (Open n) (Says (Greeting c boot host)) before = timestamp c boot host ∷ before
stamps_after _ _ before = before

-- the timestamps of all greetings, the newest first
abbrev pub stamps : List Entry → List (List ℕ)
stamps [] = []
stamps (e ∷ G) = stamps_after e.act e.said (stamps G)

-- an event is an office's opening
abbrev pub IsStart : Event → EventTag → Type 0
IsStart (event.Start host boot limits) (Tagged t) = ⊤
IsStart _ m = ⊥

-- the oldest event is an opening
abbrev pub BeginsWithStart : Log → Type 0
BeginsWithStart [] = ⊥
BeginsWithStart ((e, m) ∷ []) = IsStart e m
BeginsWithStart ((e, m) ∷ x ∷ T) = BeginsWithStart (x ∷ T)

-- the same, as one word that isn't unfolded
unfoldable pub HasBegun : Log → Type 0
HasBegun T = BeginsWithStart T

-- no event yet, or the oldest is an opening
unfoldable pub IsNewOrBegun : Log → Type 0
IsNewOrBegun T = (T ≡ []) ⊎ BeginsWithStart T

-- if all boot numbers differ, all timestamps differ
abbrev pub GreetingsDiffer : Type 0
GreetingsDiffer = (T : Trace) → BeginsWithStart T.log → are_formed T.log ≡ true
    → are_distinct (λ (n m : ℕ). n == m) (boots T.log) ≡ true
    → are_distinct bytes_eq (stamps (history T)) ≡ true

-- the same, of one trace
abbrev pub TimestampsDiffer : Trace → Type 0
TimestampsDiffer T = are_distinct (λ (n m : ℕ). n == m) (boots T.log) ≡ true
    → are_distinct bytes_eq (stamps (history T)) ≡ true

-- ---- the form of replies

-- this holds of what was said, if that is a reply
abbrev pub IfReply : (Reply → Type 0) → Said → Type 0
IfReply P (Says r) = P r
IfReply P Silence = ⊤
IfReply P (Answers a) = ⊤

-- this holds of every reply of a history
abbrev pub AllReplies : (Reply → Type 0) → List Entry → Type 0
AllReplies P [] = ⊤
AllReplies P (e ∷ G) = IfReply P e.said × AllReplies P G

-- over sound records and events of their types, every reply has the form that replies have
abbrev pub RepliesHaveTheirForm : Type 0
RepliesHaveTheirForm =
    (T : Trace) → IsSound T.base → are_formed T.log ≡ true → AllReplies IsWellFormed (history T)

-- ---- marks by the view and the policy

-- a DELE may mark this message of the view: if removals are judged at the DELE, the policy must
-- let the clerk remove it
abbrev pub is_markable : Removals → Option Message → Policy → LoginName → Bool
is_markable judged None policy name = false
is_markable JudgedAtDele (Some m) policy name = may_remove policy name m.class
is_markable JudgedAtQuit (Some m) policy name = true

-- a number may be marked: it isn't marked yet, and its message may be
abbrev pub may_mark : Records → List Entry → ℕ → LoginName → List ℕ → ℕ → Bool
may_mark B G c name before n = not (is_marked before n) && is_markable (judging G)
    (at_number (view B G c) n) (in_force B G) name

-- the marks after a session's command: a DELE marks its number if that may be marked, a RSET
-- unmarks all, and no other command changes them
abbrev pub marks_by_command : Command → (may_mark : ℕ → Bool) → List ℕ → List ℕ
marks_by_command (Dele n) may_mark before = if may_mark n then before ++ n ∷ [] else before
marks_by_command Rset may_mark before = []
marks_by_command Capa may_mark before = before
marks_by_command (User name) may_mark before = before
marks_by_command (Pass password) may_mark before = before
marks_by_command (Apop name digest) may_mark before = before
marks_by_command Quit may_mark before = before
marks_by_command Stat may_mark before = before
marks_by_command ListAll may_mark before = before
marks_by_command (ListOne n) may_mark before = before
marks_by_command UidlAll may_mark before = before
marks_by_command (UidlOne n) may_mark before = before
marks_by_command (Retr n) may_mark before = before
marks_by_command (Top n k) may_mark before = before
marks_by_command Noop may_mark before = before

-- the marks after a line
abbrev pub marks_by_line : Records → List Entry → ℕ → Result Command LineFault → List ℕ → List ℕ
marks_by_line B G c (Ok command) before =
    marks_by_command command (may_mark B G c (name_or_nobody (login G c)) before) before
marks_by_line B G c (Err fault) before = before

-- only a line of this connection that is done marks or unmarks
abbrev pub marks_by_act : Records → List Entry → ℕ → Act → Tag → List ℕ → List ℕ
marks_by_act B G c (Line n x) Done before =
    if n == c then marks_by_line B G c (reading x) before else before
marks_by_act B G c _ t before = before

-- a login begins without marks
abbrev pub marks_unless_login : Option LoginName → List ℕ → List ℕ
marks_unless_login (Some name) before = []
marks_unless_login None before = before

-- a session's marks: the numbers of the DELE lines done since its login and its last RSET
abbrev pub marks_by_view : Records → List Entry → ℕ → List ℕ
marks_by_view B [] c = []
marks_by_view B (e ∷ G) c = marks_unless_login (login_by e.act e.said c (user G c))
    (marks_by_act B G c e.act e.tag (marks_by_view B G c))

-- a session's marks by the replies and by the view are the same
abbrev pub MarksAreByView : Type 0
MarksAreByView = (B : Records) (H : List (Act × Tag)) (c : ℕ) → live (told B H) c ≡ true
    → marks (told B H) c ≡ marks_by_view B (told B H) c

-- ---- a store of its own

-- records agree with themselves, when nothing was done
abbrev pub OwnRecordsAgree : Type 0
OwnRecordsAgree = (B : Records) → Agree B (records B [])

-- ---- sent exactly

-- if each event has a tag that it may have, each connection is sent exactly what the history
-- sends it
abbrev pub TakenIsSent : Type 0
TakenIsSent = (T : Trace) → AreAdmitted T → (c : ℕ) → IsSentExactly T c

-- an office's opening may always have the tag Done
abbrev pub OpeningsAreAdmitted : Type 0
OpeningsAreAdmitted = (T : Trace) (host : List ℕ) (boot : ℕ) (limits : Limits)
    → IsAdmitted T (event.Start host boot limits) (Tagged Done)
