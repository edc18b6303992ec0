-- Which connections stay open if something happens on one of them.
use Rattle.std.proofs.Common.{◌≡◌, ℕ, Bool, true, false, ◌==◌, List, [], ◌∷◌, ◌++◌, drop, refl, sym, ◌∙◌, ap, None, Some, Option, max, ne_eqb, eq-eqb, ⊎_elim}
use Rattle.std.specs.Bool.{⊤, if◌then◌else◌}
use Rattle.std.proofs.lemmas.Bool.{cases_eq}
use Rattle.popline.specs.Cutting.{Cut, has_newline}
use Rattle.vault.specs.Records.{Records}
use Rattle.office.specs.History.{Act, Open, Line, Gone, Idle, Deposit, Administer, Restart, Tag, Done, Failed, NoMemory, Said, Entry}
use Rattle.office.specs.Connections.{connected, connected_after, closing, closing_after, sent, sent_after, serving}
use Rattle.office.specs.Told.{told, said_to, answers_if_done}
use Rattle.office.specs.Sessions.{live}
use Rattle.office.specs.Answers as answer
use Rattle.office.specs.Answers.{AdminCommand, ListMaildrops, ShowMaildrop, AddMaildrop, DropMaildrop, ListClerks, ShowClerk, PutClerk, DropClerk}
use Rattle.office.specs.Answers.{ShowPolicy, SetPolicy, ListGroups, ListSessions, EndSession, Explain}
use Rattle.office.specs.Events.{Event, EventTag, Tagged, Ignored, Log}
use Rattle.office.specs.Events as event
use Rattle.office.specs.Log.{next_number, taken, moment}
use Rattle.office.specs.Trace.{acts_from, acts_at, acts_of_piece, acts_of_took, act_of_part, act_of_all, line_act, idle_acts, idle_numbers, history, is_open, is_open_by, is_left, next_line}
use Rattle.office.specs.Taken.{trace_of}

-- ---- what an event may do to the open connections

-- it opens none
abbrev pub Fewer : Records → (before after : Log) → Type 0
Fewer B L after = (d : ℕ) → is_open (trace_of B after) d ≡ true → is_open (trace_of B L) d ≡ true

-- it leaves each but one as it was
abbrev pub Frame : Records → (before after : Log) → ℕ → Type 0
Frame B L after c = (d : ℕ) → (c ≡ d → ⊥) → is_open (trace_of B after) d ≡ is_open (trace_of B L) d

-- ---- acts of others

-- an act is another connection's, or a deposit
abbrev IsOther : Act → ℕ → Type 0
IsOther (Open n) d = (n == d) ≡ false
IsOther (Line n x) d = (n == d) ≡ false
IsOther (Gone n) d = (n == d) ≡ false
IsOther (Idle n) d = (n == d) ≡ false
IsOther (Deposit m class id text) d = ⊤
IsOther (Administer command) d = ⊥
IsOther (Restart boot host removals) d = ⊥

abbrev AreOthers : List (Act × Tag) → ℕ → Type 0
AreOthers [] d = ⊤
AreOthers ((a, t) ∷ H) d = IsOther a d × AreOthers H d

one_connected : (a : Act) (t : Tag) (s : Said) (d : ℕ) (b : Bool) → IsOther a d → connected_after a t s d b ≡ b
one_connected (Open n) t s d b o = rw o refl
one_connected (Line n x) Done s d b o = refl
one_connected (Line n x) Failed s d b o = refl
one_connected (Line n x) NoMemory s d b o = rw o refl
one_connected (Gone n) t s d b o = rw o refl
one_connected (Idle n) t s d b o = rw o refl
one_connected (Deposit m class id text) t s d b o = refl
one_connected (Administer command) t s d b o = absurd o
one_connected (Restart boot host removals) t s d b o = absurd o

one_closing : (a : Act) (s : Said) (d : ℕ) (b : Bool) → IsOther a d → closing_after a s d b ≡ b
one_closing (Open n) s d b o = rw o refl
one_closing (Line n x) s d b o = rw o refl
one_closing (Gone n) s d b o = refl
one_closing (Idle n) s d b o = refl
one_closing (Deposit m class id text) s d b o = refl
one_closing (Administer command) s d b o = absurd o
one_closing (Restart boot host removals) s d b o = absurd o

one_sent : (a : Act) (s : Said) (d : ℕ) (xs : List ℕ) → IsOther a d → sent_after a s d xs ≡ xs
one_sent (Open n) s d xs o = rw o refl
one_sent (Line n x) s d xs o = rw o refl
one_sent (Gone n) s d xs o = refl
one_sent (Idle n) s d xs o = refl
one_sent (Deposit m class id text) s d xs o = refl
one_sent (Administer command) s d xs o = absurd o
one_sent (Restart boot host removals) s d xs o = absurd o

module _ (B : Records) (H : List (Act × Tag)) (d : ℕ) where
  same_connected : (new : List (Act × Tag)) → AreOthers new d → connected (told B (new ++ H)) d ≡ connected (told B H) d
  same_connected [] o = refl
  same_connected ((a, t) ∷ new) o =
      one_connected a t (said_to B (told B (new ++ H)) a t) d (connected (told B (new ++ H)) d) o.0 ∙ same_connected new o.1

  same_closing : (new : List (Act × Tag)) → AreOthers new d → closing (told B (new ++ H)) d ≡ closing (told B H) d
  same_closing [] o = refl
  same_closing ((a, t) ∷ new) o =
      one_closing a (said_to B (told B (new ++ H)) a t) d (closing (told B (new ++ H)) d) o.0 ∙ same_closing new o.1

  same_sent : (new : List (Act × Tag)) → AreOthers new d → sent (told B (new ++ H)) d ≡ sent (told B H) d
  same_sent [] o = refl
  same_sent ((a, t) ∷ new) o =
      one_sent a (said_to B (told B (new ++ H)) a t) d (sent (told B (new ++ H)) d) o.0 ∙ same_sent new o.1

open_by : (a a' b b' : Bool) (n n' : ℕ) (s s' : List ℕ) → a ≡ a' → b ≡ b' → n ≡ n' → s ≡ s' → is_open_by a b (drop n s) ≡ is_open_by a' b' (drop n' s')
open_by a a' b b' n n' s s' p q r t = rw (p, q, r, t) refl

-- acts of others, and as many octets taken, leave a connection as it was
leaves : (B : Records) (L : Log) (e : Event) (m : EventTag) (d : ℕ) → AreOthers (acts_at L (history (trace_of B L)) e m) d → taken ((e, m) ∷ L) d ≡ taken L d
    → is_open (trace_of B ((e, m) ∷ L)) d ≡ is_open (trace_of B L) d
leaves B L e m d o t =
    let new = acts_at L (history (trace_of B L)) e m in
    let H = acts_from B L in
    open_by _ _ _ _ _ _ _ _ (same_connected B H d new o) (same_closing B H d new o) t (same_sent B H d new o)

-- ---- the acts of one connection's events

line_others : (c : ℕ) (t : Tag) (next : Option Cut) (d : ℕ) → (c == d) ≡ false → AreOthers (line_act c t next) d
line_others c t None d ne = tt
line_others c t (Some x) d ne = (ne, tt)

piece_others : (b : Bool) (c : ℕ) (t : Tag) (next : Option Cut) (d : ℕ) → (c == d) ≡ false → AreOthers (acts_of_piece b c t next) d
piece_others true c t next d ne = line_others c t next d ne
piece_others false c t next d ne = tt

part_others : (s : Bool) (c : ℕ) (t : Tag) (d : ℕ) → (c == d) ≡ false → AreOthers (act_of_part s c t) d
part_others true c Done d ne = tt
part_others true c Failed d ne = (ne, tt)
part_others true c NoMemory d ne = (ne, tt)
part_others false c Done d ne = tt
part_others false c Failed d ne = tt
part_others false c NoMemory d ne = (ne, tt)

all_others : (cl : Bool) (c : ℕ) (t : Tag) (next : Option Cut) (d : ℕ) → (c == d) ≡ false → AreOthers (act_of_all cl c t next) d
all_others true c t next d ne = tt
all_others false c t next d ne = line_others c t next d ne

took_others : (l s cl : Bool) (c : ℕ) (t : Tag) (next : Option Cut) (d : ℕ) → (c == d) ≡ false → AreOthers (acts_of_took l s cl c t next) d
took_others true s cl c t next d ne = part_others s c t d ne
took_others false s cl c t next d ne = all_others cl c t next d ne

module _ (B : Records) (L : Log) where
  pub frame_read : (c : ℕ) (piece : List ℕ) (t : Tag) → Frame B L ((event.Bytes c piece, Tagged t) ∷ L) c
  frame_read c piece t d ne =
      leaves B L (event.Bytes c piece) (Tagged t) d (piece_others (has_newline piece) c t (next_line L (history (trace_of B L)) c piece) d (ne_eqb c d ne)) refl

  took_same : (c n d : ℕ) (t : Tag) → (c == d) ≡ false → taken ((event.Took c n, Tagged t) ∷ L) d ≡ taken L d
  took_same c n d t ne = rw ne refl

  pub frame_took : (c n : ℕ) (t : Tag) → Frame B L ((event.Took c n, Tagged t) ∷ L) c
  frame_took c n t d ne =
      let G = history (trace_of B L) in
      let apart : (c == d) ≡ false = ne_eqb c d ne in
      leaves B L (event.Took c n) (Tagged t) d (took_others (is_left L G c n) (serving G c) (closing G c) c t (next_line L G c []) d apart) (took_same c n d t apart)

  pub frame_gone : (c : ℕ) (t : Tag) → Frame B L ((event.Gone c, Tagged t) ∷ L) c
  frame_gone c t d ne = leaves B L (event.Gone c) (Tagged t) d (ne_eqb c d ne, tt) refl

  -- it isn't open after that
  pub gone_so : (c : ℕ) (t : Tag) → is_open (trace_of B ((event.Gone c, Tagged t) ∷ L)) c ≡ false
  gone_so c t = let q = eq-eqb c c refl in rw q refl

  pub deposit_same : (m class id text : List ℕ) (t : Tag) (d : ℕ) → is_open (trace_of B ((event.Deposit m class id text, Tagged t) ∷ L)) d ≡ is_open (trace_of B L) d
  deposit_same m class id text t d = leaves B L (event.Deposit m class id text) (Tagged t) d (tt, tt) refl

  opened_taken : (d : ℕ) → (next_number L == d) ≡ false → taken ((event.Connect, Tagged Done) ∷ L) d ≡ taken L d
  opened_taken d ne = rw ne refl

  pub frame_connect : Frame B L ((event.Connect, Tagged Done) ∷ L) (next_number L)
  frame_connect d ne =
      let apart : (next_number L == d) ≡ false = ne_eqb (next_number L) d ne in
      leaves B L event.Connect (Tagged Done) d (apart, tt) (opened_taken d apart)

  -- what happens on an open connection opens none
  pub fewer_framed : (c : ℕ) (after : Log) → is_open (trace_of B L) c ≡ true → Frame B L after c → Fewer B L after
  fewer_framed c after here f d open_then =
      ⊎_elim
      (λ (e : c ≡ d). ap (is_open (trace_of B L)) (sym e) ∙ here)
      (λ (ne : c ≡ d → ⊥). sym (f d ne) ∙ open_then)
      (cases_eq c d)

-- ---- a tick

-- acts that end idle connections
abbrev AreEnds : List (Act × Tag) → Type 0
AreEnds [] = ⊤
AreEnds ((Idle n, t) ∷ H) = AreEnds H
AreEnds (a ∷ H) = ⊥

ends_push : (H : List (Act × Tag)) (n : ℕ) (t : Tag) → AreEnds H → AreEnds (H ++ (Idle n, t) ∷ [])
ends_push [] n t h = tt
ends_push ((Idle k, u) ∷ H) n t h = ends_push H n t h
ends_push ((Open k, u) ∷ H) n t h = absurd h
ends_push ((Line k x, u) ∷ H) n t h = absurd h
ends_push ((Gone k, u) ∷ H) n t h = absurd h
ends_push ((Deposit m class id text, u) ∷ H) n t h = absurd h
ends_push ((Administer command, u) ∷ H) n t h = absurd h
ends_push ((Restart boot host removals, u) ∷ H) n t h = absurd h

idle_ends : (numbers : List ℕ) → AreEnds (idle_acts numbers)
idle_ends [] = tt
idle_ends (c ∷ numbers) = ends_push (idle_acts numbers) c Done (idle_ends numbers)

unless : (b before : Bool) → (if b then false else before) ≡ true → before ≡ true
unless true before e = cc
unless false before e = e

module _ (B : Records) (H : List (Act × Tag)) (d : ℕ) where
  was_connected : (new : List (Act × Tag)) → AreEnds new → connected (told B (new ++ H)) d ≡ true → connected (told B H) d ≡ true
  was_connected [] i e = e
  was_connected ((Idle n, t) ∷ new) i e = was_connected new i (unless (n == d) (connected (told B (new ++ H)) d) e)
  was_connected ((Open k, u) ∷ new) i e = absurd i
  was_connected ((Line k x, u) ∷ new) i e = absurd i
  was_connected ((Gone k, u) ∷ new) i e = absurd i
  was_connected ((Deposit m class id text, u) ∷ new) i e = absurd i
  was_connected ((Administer command, u) ∷ new) i e = absurd i
  was_connected ((Restart boot host removals, u) ∷ new) i e = absurd i

  ends_closing : (new : List (Act × Tag)) → AreEnds new → closing (told B (new ++ H)) d ≡ closing (told B H) d
  ends_closing [] i = refl
  ends_closing ((Idle n, t) ∷ new) i = ends_closing new i
  ends_closing ((Open k, u) ∷ new) i = absurd i
  ends_closing ((Line k x, u) ∷ new) i = absurd i
  ends_closing ((Gone k, u) ∷ new) i = absurd i
  ends_closing ((Deposit m class id text, u) ∷ new) i = absurd i
  ends_closing ((Administer command, u) ∷ new) i = absurd i
  ends_closing ((Restart boot host removals, u) ∷ new) i = absurd i

  ends_sent : (new : List (Act × Tag)) → AreEnds new → sent (told B (new ++ H)) d ≡ sent (told B H) d
  ends_sent [] i = refl
  ends_sent ((Idle n, t) ∷ new) i = ends_sent new i
  ends_sent ((Open k, u) ∷ new) i = absurd i
  ends_sent ((Line k x, u) ∷ new) i = absurd i
  ends_sent ((Gone k, u) ∷ new) i = absurd i
  ends_sent ((Deposit m class id text, u) ∷ new) i = absurd i
  ends_sent ((Administer command, u) ∷ new) i = absurd i
  ends_sent ((Restart boot host removals, u) ∷ new) i = absurd i

fewer_true : (a' b b' : Bool) (n : ℕ) (s s' : List ℕ) → b' ≡ b → s' ≡ s → is_open_by a' b' (drop n s') ≡ true → is_open_by true b (drop n s) ≡ true
fewer_true true b b' n s s' q r e = open_by true true b b' n n s s' refl (sym q) refl (sym r) ∙ e
fewer_true false b b' n s s' q r e = cc

fewer_by : (a a' b b' : Bool) (n : ℕ) (s s' : List ℕ) → (a' ≡ true → a ≡ true) → b' ≡ b → s' ≡ s → is_open_by a' b' (drop n s') ≡ true → is_open_by a b (drop n s) ≡ true
fewer_by true a' b b' n s s' h q r e = fewer_true a' b b' n s s' q r e
fewer_by false true b b' n s s' h q r e = let z = h refl in cc
fewer_by false false b b' n s s' h q r e = e

module _ (B : Records) (L : Log) where
  pub fewer_tick : (now : ℕ) (m : EventTag) → Fewer B L ((event.Tick now, m) ∷ L)
  fewer_tick now Ignored d e = e
  fewer_tick now (Tagged t) d e =
      let new = idle_acts (idle_numbers L (history (trace_of B L)) (max (moment L) now)) in
      let H = acts_from B L in
      let i = idle_ends (idle_numbers L (history (trace_of B L)) (max (moment L) now)) in
      fewer_by (connected (told B H) d) (connected (told B (new ++ H)) d) (closing (told B H) d) (closing (told B (new ++ H)) d) (taken L d) (sent (told B H) d) (sent (told B (new ++ H)) d)
      (was_connected B H d new i) (ends_closing B H d new i) (ends_sent B H d new i) e

-- ---- an administrator's command

ended_if : (at before : Bool) → (if at then false else before) ≡ true → before ≡ true
ended_if true before e = cc
ended_if false before e = e

end_connected : (t : Tag) (lives : Bool) (n d : ℕ) (b : Bool)
    → connected_after (Administer (EndSession n)) t (answers_if_done t (if lives then answer.Ended else answer.NoSuchSession)) d b ≡ true → b ≡ true
end_connected Done true n d b e = ended_if (n == d) b e
end_connected Done false n d b e = e
end_connected Failed lives n d b e = e
end_connected NoMemory lives n d b e = e

command_connected : (B : Records) (G : List Entry) (command : AdminCommand) (t : Tag) (d : ℕ) (b : Bool)
    → connected_after (Administer command) t (said_to B G (Administer command) t) d b ≡ true → b ≡ true
command_connected B G ListMaildrops t d b e = e
command_connected B G (ShowMaildrop m) t d b e = e
command_connected B G (AddMaildrop m) t d b e = e
command_connected B G (DropMaildrop m) t d b e = e
command_connected B G ListClerks t d b e = e
command_connected B G (ShowClerk c) t d b e = e
command_connected B G (PutClerk c k) t d b e = e
command_connected B G (DropClerk c) t d b e = e
command_connected B G ShowPolicy t d b e = e
command_connected B G (SetPolicy p) t d b e = e
command_connected B G ListGroups t d b e = e
command_connected B G ListSessions t d b e = e
command_connected B G (EndSession n) t d b e = end_connected t (live G n) n d b e
command_connected B G (Explain c m class a) t d b e = e

pub fewer_command : (B : Records) (L : Log) (command : AdminCommand) (m : EventTag) → Fewer B L ((event.Admin command, m) ∷ L)
fewer_command B L command Ignored d e = e
fewer_command B L command (Tagged t) d e =
    let H = acts_from B L in
    let new = (Administer command, t) ∷ H in
    fewer_by (connected (told B H) d) (connected (told B new) d) (closing (told B H) d) (closing (told B new) d) (taken L d) (sent (told B H) d) (sent (told B new) d)
    (command_connected B (told B H) command t d (connected (told B H) d)) refl refl e
