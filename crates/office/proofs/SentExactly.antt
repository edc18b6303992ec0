-- What a connection took is a beginning of what it was sent.
use Rattle.std.proofs.Common.{◌≡◌, ℕ, ◌+◌, ◌≤◌, Bool, true, false, not, ◌&&◌, ◌||◌, ◌==◌, nat_lt, List, [], ◌∷◌, ◌++◌, length, take, drop, max, refl, sym, ◌∙◌, ap, arith, None}
use Rattle.std.proofs.Common.{Some, Option, eq-eqb, ne_eqb, ⊎_elim, subst, true≢false, append-nil, append_assoc, length-append}
use Rattle.std.proofs.Math.Seq.{take-add}
use Rattle.std.proofs.lemmas.List.{length-drop, take-append-le, take-append-drop}
use Rattle.std.proofs.lemmas.Bool.{cases_eq, ltb-false}
use Rattle.std.specs.Bool.{⊤, if◌then◌else◌}
use Rattle.popline.specs.Cutting.{Cut, has_newline}
use Rattle.vault.specs.Records.{Records}
use Rattle.office.specs.History.{Act, Open, Line, Gone, Idle, Deposit, Administer, Restart, Tag, Done, Failed, NoMemory, Entry, Said}
use Rattle.office.specs.Connections.{opens, connected, sent, sent_after, octets_said, closing, closing_after, serving}
use Rattle.office.specs.Replying.{is_empty}
use Rattle.office.specs.Answers.{AdminCommand}
use Rattle.office.specs.Told.{told, said_to}
use Rattle.office.specs.Events.{Limits, Event, EventTag, Tagged, Ignored, Log, Trace}
use Rattle.office.specs.Events as event
use Rattle.office.specs.Outcomes.{Outcome, Reason, NoSuchConnection, NotReady, PieceTooLong, event_tag_of}
use Rattle.office.specs.Log.{next_number, taken, moment}
use Rattle.office.specs.Trace.{acts_from, acts_at, acts_of_piece, acts_of_took, act_of_part, act_of_all, line_act, idle_acts, idle_numbers, history, rest, rest_if, is_open}
use Rattle.office.specs.Trace.{is_open_by, is_left, untaken, next_line}
use Rattle.office.specs.Expected.{ignored, shown_at, or_ignored, reason_if, most_in_a_piece}
use Rattle.office.specs.Taken.{trace_of, all_taken, all_taken_by, closes_at, has_closed_by, IsAdmitted, AreAdmittedBy}
use Rattle.office.specs.Laws.{TakenIsSent}

-- ---- acts that open no connection of this number

abbrev OpensNone : List (Act × Tag) → ℕ → Type 0
OpensNone [] d = ⊤
OpensNone ((a, t) ∷ H) d = (opens a d ≡ false) × OpensNone H d

if_more : (b : Bool) (before octets : List ℕ) → (more : List ℕ) × ((if b then before ++ octets else before) ≡ before ++ more)
if_more true before octets = (octets, refl)
if_more false before octets = ([], sym (append-nil before))

one_more : (a : Act) (s : Said) (d : ℕ) (before : List ℕ) → opens a d ≡ false → (more : List ℕ) × (sent_after a s d before ≡ before ++ more)
one_more (Open n) s d before others = ([], rw others (sym (append-nil before)))
one_more (Line n x) s d before others = if_more (n == d) before (octets_said s)
one_more (Gone n) s d before others = ([], sym (append-nil before))
one_more (Idle n) s d before others = ([], sym (append-nil before))
one_more (Deposit m class id text) s d before others = ([], sym (append-nil before))
one_more (Administer command) s d before others = ([], sym (append-nil before))
one_more (Restart boot host removals) s d before others = ([], sym (append-nil before))

-- they only lengthen what it is sent
grown : (B : Records) (new H : List (Act × Tag)) (d : ℕ) → OpensNone new d → (more : List ℕ) × (sent (told B (new ++ H)) d ≡ sent (told B H) d ++ more)
grown B [] H d others = ([], sym (append-nil (sent (told B H) d)))
grown B ((a, t) ∷ new) H d others =
    let r = grown B new H d others.1 in
    let o = one_more a (said_to B (told B (new ++ H)) a t) d (sent (told B (new ++ H)) d) others.0 in
    (r.0 ++ o.0, o.1 ∙ (ap (λ xs. xs ++ o.0) r.1 ∙ append_assoc (sent (told B H) d) r.0 o.0))

-- ---- the acts of events other than an opening

line_opens : (c : ℕ) (t : Tag) (next : Option Cut) (d : ℕ) → OpensNone (line_act c t next) d
line_opens c t None d = tt
line_opens c t (Some x) d = (refl, tt)

piece_opens : (b : Bool) (c : ℕ) (t : Tag) (next : Option Cut) (d : ℕ) → OpensNone (acts_of_piece b c t next) d
piece_opens true c t next d = line_opens c t next d
piece_opens false c t next d = tt

part_opens : (s : Bool) (c : ℕ) (t : Tag) (d : ℕ) → OpensNone (act_of_part s c t) d
part_opens true c Done d = tt
part_opens true c Failed d = (refl, tt)
part_opens true c NoMemory d = (refl, tt)
part_opens false c Done d = tt
part_opens false c Failed d = tt
part_opens false c NoMemory d = (refl, tt)

all_opens : (cl : Bool) (c : ℕ) (t : Tag) (next : Option Cut) (d : ℕ) → OpensNone (act_of_all cl c t next) d
all_opens true c t next d = tt
all_opens false c t next d = line_opens c t next d

took_opens : (l s cl : Bool) (c : ℕ) (t : Tag) (next : Option Cut) (d : ℕ) → OpensNone (acts_of_took l s cl c t next) d
took_opens true s cl c t next d = part_opens s c t d
took_opens false s cl c t next d = all_opens cl c t next d

opens_push : (H : List (Act × Tag)) (a : Act) (t : Tag) (d : ℕ) → OpensNone H d → opens a d ≡ false → OpensNone (H ++ (a, t) ∷ []) d
opens_push [] a t d others n = (n, tt)
opens_push ((b, u) ∷ H) a t d others n = (others.0, opens_push H a t d others.1 n)

idle_opens : (numbers : List ℕ) (d : ℕ) → OpensNone (idle_acts numbers) d
idle_opens [] d = tt
idle_opens (c ∷ numbers) d = opens_push (idle_acts numbers) (Idle c) Done d (idle_opens numbers d) refl

-- ---- what was taken, one event on

-- what a connection took is a beginning of what it was sent
record Begins (B : Records) (L : Log) (d : ℕ) : Type 0 where
  is : all_taken_by B L d ≡ take (taken L d) (sent (history (trace_of B L)) d)
  fits : taken L d ≤ length (sent (history (trace_of B L)) d)

begins_still : (B : Records) (L : Log) (e : Event) (m : EventTag) (d : ℕ) → OpensNone (acts_at L (history (trace_of B L)) e m) d
    → taken ((e, m) ∷ L) d ≡ taken L d → all_taken_by B ((e, m) ∷ L) d ≡ all_taken_by B L d → Begins B L d → Begins B ((e, m) ∷ L) d
begins_still B L e m d others t o b =
    let g = grown B (acts_at L (history (trace_of B L)) e m) (acts_from B L) d others in
    let n = taken L d in
    let s = sent (history (trace_of B L)) d in
    let h = b.fits in
    record {
      is = o ∙ (b.is ∙ (sym (take-append-le n s g.0 h) ∙ (ap (take n) (sym g.1) ∙ ap (λ k. take k (sent (history (trace_of B ((e, m) ∷ L))) d)) (sym t))));
      fits = (let l = ap length g.1 in omega (arith, h, l, t, length-append s g.0));
    }

-- what isn't ignored has no reason to be
not_ignored : (t : Tag) (r : Option Reason) (o : Outcome) → Tagged t ≡ event_tag_of (or_ignored r o) → r ≡ None
not_ignored t None o e = refl
not_ignored t (Some reason) o e = cc

took_at : (here past : Bool) → (if not here then Some NoSuchConnection else reason_if past NotReady) ≡ None → (here ≡ true) × (past ≡ false)
took_at true true e = cc
took_at true false e = (refl, refl)
took_at false past e = cc

or_false : (a b : Bool) → (a || b) ≡ false → b ≡ false
or_false true b e = cc
or_false false b e = e

-- a taking that isn't ignored takes of what is owed, on an open connection
record TakesOwed (T : Trace) (c count : ℕ) : Type 0 where
  here : is_open T c ≡ true
  fits : count ≤ length (rest T c)

takes_owed : (T : Trace) (c count : ℕ) (t : Tag) → IsAdmitted T (event.Took c count) (Tagged t) → TakesOwed T c count
takes_owed T c count t a =
    let none = not_ignored t (ignored T a.lent (event.Took c count)) (shown_at T.base T.log (history T) (event.Took c count) a.is.tag) (a.event_tag ∙ ap event_tag_of a.is.is) in
    let f = took_at (is_open T c) ((count == 0) || nat_lt (a.lent c) count) none in
    let within : count ≤ a.lent c = ltb-false (a.lent c) count (or_false (count == 0) (nat_lt (a.lent c) count) f.1) in
    let owed = a.owed c in
    record { here = f.0; fits = omega (arith, within, owed) }

pub rest_open : (b : Bool) (u : List ℕ) → b ≡ true → rest_if b u ≡ u
rest_open true u e = refl
rest_open false u e = cc

module _ (B : Records) (L : Log) where
  took_own : (c n : ℕ) (t : Tag) → TakesOwed (trace_of B L) c n → Begins B L c → Begins B ((event.Took c n, Tagged t) ∷ L) c
  took_own c n t own b =
      let G = history (trace_of B L) in
      let s = sent G c in
      let i = taken L c in
      let r : rest (trace_of B L) c ≡ drop i s = rest_open (is_open (trace_of B L) c) (untaken L G c) own.here in
      let others = took_opens (is_left L G c n) (serving G c) (closing G c) c t (next_line L G c []) c in
      let g = grown B (acts_at L G (event.Took c n) (Tagged t)) (acts_from B L) c others in
      let q = eq-eqb c c refl in
      let k : taken ((event.Took c n, Tagged t) ∷ L) c ≡ i + n = rw q refl in
      let o : all_taken_by B ((event.Took c n, Tagged t) ∷ L) c ≡ all_taken_by B L c ++ take n (rest (trace_of B L) c) = rw q refl in
      let h = b.fits in
      let fits = own.fits in
      let f = ap length r in
      let within : i + n ≤ length s = omega (arith, h, fits, f, length-drop i s) in
      record {
        is = o ∙ (ap (λ xs. xs ++ take n (rest (trace_of B L) c)) b.is ∙ (ap (λ xs. take i s ++ take n xs) r ∙ (sym (take-add i n s) ∙ (sym (take-append-le (i + n) s g.0 within)
            ∙ (ap (take (i + n)) (sym g.1) ∙ ap (λ x. take x (sent (history (trace_of B ((event.Took c n, Tagged t) ∷ L))) c)) (sym k))))));
        fits = (let l = ap length g.1 in omega (arith, within, l, k, length-append s g.0));
      }

  took_other : (c n d : ℕ) (t : Tag) → (c ≡ d → ⊥) → Begins B L d → Begins B ((event.Took c n, Tagged t) ∷ L) d
  took_other c n d t ne b =
      let G = history (trace_of B L) in
      let q = ne_eqb c d ne in
      let k : taken ((event.Took c n, Tagged t) ∷ L) d ≡ taken L d = rw q refl in
      let o : all_taken_by B ((event.Took c n, Tagged t) ∷ L) d ≡ all_taken_by B L d = rw q refl in
      begins_still B L (event.Took c n) (Tagged t) d (took_opens (is_left L G c n) (serving G c) (closing G c) c t (next_line L G c []) d) k o b

  begins_took : (c n d : ℕ) (m : EventTag) → IsAdmitted (trace_of B L) (event.Took c n) m → Begins B L d → Begins B ((event.Took c n, m) ∷ L) d
  begins_took c n d Ignored a b = begins_still B L (event.Took c n) Ignored d tt refl refl b
  begins_took c n d (Tagged t) a b =
      ⊎_elim
      (λ (q : c ≡ d). subst (λ x. Begins B ((event.Took c n, Tagged t) ∷ L) x) q (took_own c n t (takes_owed (trace_of B L) c n t a) (subst (λ x. Begins B L x) (sym q) b)))
      (λ (ne : c ≡ d → ⊥). took_other c n d t ne b)
      (cases_eq c d)

  -- an opening
  begins_new : Begins B ((event.Connect, Tagged Done) ∷ L) (next_number L)
  begins_new =
      let q = eq-eqb (next_number L) (next_number L) refl in
      let k : taken ((event.Connect, Tagged Done) ∷ L) (next_number L) ≡ 0 = rw q refl in
      let o : all_taken_by B ((event.Connect, Tagged Done) ∷ L) (next_number L) ≡ [] = rw q refl in
      let s = sent (history (trace_of B ((event.Connect, Tagged Done) ∷ L))) (next_number L) in
      record { is = o ∙ ap (λ n. take n s) (sym k); fits = omega (arith, k) }

  begins_beside : (d : ℕ) → (next_number L ≡ d → ⊥) → Begins B L d → Begins B ((event.Connect, Tagged Done) ∷ L) d
  begins_beside d ne b =
      let q = ne_eqb (next_number L) d ne in
      let k : taken ((event.Connect, Tagged Done) ∷ L) d ≡ taken L d = rw q refl in
      let o : all_taken_by B ((event.Connect, Tagged Done) ∷ L) d ≡ all_taken_by B L d = rw q refl in
      begins_still B L event.Connect (Tagged Done) d (q, tt) k o b

  begins_connect : (m : EventTag) (d : ℕ) → Begins B L d → Begins B ((event.Connect, m) ∷ L) d
  begins_connect Ignored d b = begins_still B L event.Connect Ignored d tt refl refl b
  begins_connect (Tagged Done) d b =
      ⊎_elim
      (λ (q : next_number L ≡ d). subst (λ x. Begins B ((event.Connect, Tagged Done) ∷ L) x) q begins_new)
      (λ (ne : next_number L ≡ d → ⊥). begins_beside d ne b)
      (cases_eq (next_number L) d)
  begins_connect (Tagged Failed) d b = begins_still B L event.Connect (Tagged Failed) d tt refl refl b
  begins_connect (Tagged NoMemory) d b = begins_still B L event.Connect (Tagged NoMemory) d tt refl refl b

  begins_bytes : (c : ℕ) (piece : List ℕ) (m : EventTag) (d : ℕ) → Begins B L d → Begins B ((event.Bytes c piece, m) ∷ L) d
  begins_bytes c piece Ignored d b = begins_still B L (event.Bytes c piece) Ignored d tt refl refl b
  begins_bytes c piece (Tagged t) d b =
      begins_still B L (event.Bytes c piece) (Tagged t) d (piece_opens (has_newline piece) c t (next_line L (history (trace_of B L)) c piece) d) refl refl b

  begins_tick : (now : ℕ) (m : EventTag) (d : ℕ) → Begins B L d → Begins B ((event.Tick now, m) ∷ L) d
  begins_tick now Ignored d b = begins_still B L (event.Tick now) Ignored d tt refl refl b
  begins_tick now (Tagged t) d b =
      begins_still B L (event.Tick now) (Tagged t) d (idle_opens (idle_numbers L (history (trace_of B L)) (max (moment L) now)) d) refl refl b

  begins_gone : (c : ℕ) (m : EventTag) (d : ℕ) → Begins B L d → Begins B ((event.Gone c, m) ∷ L) d
  begins_gone c Ignored d b = begins_still B L (event.Gone c) Ignored d tt refl refl b
  begins_gone c (Tagged t) d b = begins_still B L (event.Gone c) (Tagged t) d (refl, tt) refl refl b

  begins_start : (host : List ℕ) (boot : ℕ) (limits : Limits) (m : EventTag) (d : ℕ) → Begins B L d → Begins B ((event.Start host boot limits, m) ∷ L) d
  begins_start host boot limits Ignored d b = begins_still B L (event.Start host boot limits) Ignored d tt refl refl b
  begins_start host boot limits (Tagged t) d b = begins_still B L (event.Start host boot limits) (Tagged t) d (refl, tt) refl refl b

  begins_restart : (boot : ℕ) (m : EventTag) (d : ℕ) → Begins B L d → Begins B ((event.Restart boot, m) ∷ L) d
  begins_restart boot Ignored d b = begins_still B L (event.Restart boot) Ignored d tt refl refl b
  begins_restart boot (Tagged t) d b = begins_still B L (event.Restart boot) (Tagged t) d (refl, tt) refl refl b

  begins_deposit : (name class id text : List ℕ) (m : EventTag) (d : ℕ) → Begins B L d → Begins B ((event.Deposit name class id text, m) ∷ L) d
  begins_deposit name class id text Ignored d b = begins_still B L (event.Deposit name class id text) Ignored d tt refl refl b
  begins_deposit name class id text (Tagged t) d b = begins_still B L (event.Deposit name class id text) (Tagged t) d (refl, tt) refl refl b

  begins_admin : (command : AdminCommand) (m : EventTag) (d : ℕ) → Begins B L d → Begins B ((event.Admin command, m) ∷ L) d
  begins_admin command Ignored d b = begins_still B L (event.Admin command) Ignored d tt refl refl b
  begins_admin command (Tagged t) d b = begins_still B L (event.Admin command) (Tagged t) d (refl, tt) refl refl b

  begins_on : (e : Event) (m : EventTag) (d : ℕ) → IsAdmitted (trace_of B L) e m → Begins B L d → Begins B ((e, m) ∷ L) d
  begins_on (event.Start host boot limits) m d a b = begins_start host boot limits m d b
  begins_on event.Connect m d a b = begins_connect m d b
  begins_on (event.Bytes c piece) m d a b = begins_bytes c piece m d b
  begins_on (event.Took c n) m d a b = begins_took c n d m a b
  begins_on (event.Gone c) m d a b = begins_gone c m d b
  begins_on (event.Tick now) m d a b = begins_tick now m d b
  begins_on (event.Deposit name class id text) m d a b = begins_deposit name class id text m d b
  begins_on (event.Admin command) m d a b = begins_admin command m d b
  begins_on (event.Restart boot) m d a b = begins_restart boot m d b

begins : (B : Records) (L : Log) (d : ℕ) → AreAdmittedBy B L → Begins B L d
begins B [] d a = record { is = refl; fits = omega arith }
begins B ((e, m) ∷ L) d a = begins_on B L e m d a.0 (begins B L d a.1)

-- ---- what closed stays closed

-- acts that neither open a connection nor answer a line of it
concerns : Act → ℕ → Bool
concerns (Open n) c = n == c
concerns (Line n x) c = n == c
concerns _ c = false

abbrev ConcernNone : List (Act × Tag) → ℕ → Type 0
ConcernNone [] c = ⊤
ConcernNone ((a, t) ∷ H) c = (concerns a c ≡ false) × ConcernNone H c

-- it is closing, and all is taken
record IsDone (L : Log) (G : List Entry) (c : ℕ) : Type 0 where
  over : closing G c ≡ true
  all : untaken L G c ≡ []

act_closing : (a : Act) (s : Said) (c : ℕ) (before : Bool) → concerns a c ≡ false → closing_after a s c before ≡ before
unfolding concerns
act_closing (Open n) s c before e = rw e refl
act_closing (Line n x) s c before e = rw e refl
act_closing (Gone n) s c before e = refl
act_closing (Idle n) s c before e = refl
act_closing (Deposit m class id text) s c before e = refl
act_closing (Administer command) s c before e = refl
act_closing (Restart boot host removals) s c before e = refl

act_sent : (a : Act) (s : Said) (c : ℕ) (before : List ℕ) → concerns a c ≡ false → sent_after a s c before ≡ before
unfolding concerns
act_sent (Open n) s c before e = rw e refl
act_sent (Line n x) s c before e = rw e refl
act_sent (Gone n) s c before e = refl
act_sent (Idle n) s c before e = refl
act_sent (Deposit m class id text) s c before e = refl
act_sent (Administer command) s c before e = refl
act_sent (Restart boot host removals) s c before e = refl

closing_still : (B : Records) (new H : List (Act × Tag)) (c : ℕ) → ConcernNone new c → closing (told B (new ++ H)) c ≡ closing (told B H) c
closing_still B [] H c none = refl
closing_still B ((a, t) ∷ new) H c none =
    act_closing a (said_to B (told B (new ++ H)) a t) c (closing (told B (new ++ H)) c) none.0 ∙ closing_still B new H c none.1

sent_still : (B : Records) (new H : List (Act × Tag)) (c : ℕ) → ConcernNone new c → sent (told B (new ++ H)) c ≡ sent (told B H) c
sent_still B [] H c none = refl
sent_still B ((a, t) ∷ new) H c none =
    act_sent a (said_to B (told B (new ++ H)) a t) c (sent (told B (new ++ H)) c) none.0 ∙ sent_still B new H c none.1

concerns_line : (n c : ℕ) (x : Cut) → (n ≡ c → ⊥) → concerns (Line n x) c ≡ false
unfolding concerns
concerns_line n c x ne = ne_eqb n c ne

concerns_open : (n c : ℕ) → (n ≡ c → ⊥) → concerns (Open n) c ≡ false
unfolding concerns
concerns_open n c ne = ne_eqb n c ne

none_line : (n : ℕ) (t : Tag) (next : Option Cut) (c : ℕ) → (n ≡ c → ⊥) → ConcernNone (line_act n t next) c
none_line n t None c ne = tt
none_line n t (Some x) c ne = (concerns_line n c x ne, tt)

none_piece : (b : Bool) (n : ℕ) (t : Tag) (next : Option Cut) (c : ℕ) → (n ≡ c → ⊥) → ConcernNone (acts_of_piece b n t next) c
none_piece true n t next c ne = none_line n t next c ne
none_piece false n t next c ne = tt

none_part : (s : Bool) (n : ℕ) (t : Tag) (c : ℕ) → ConcernNone (act_of_part s n t) c
unfolding concerns
none_part true n Done c = tt
none_part true n Failed c = (refl, tt)
none_part true n NoMemory c = (refl, tt)
none_part false n Done c = tt
none_part false n Failed c = tt
none_part false n NoMemory c = (refl, tt)

none_took : (l s cl : Bool) (n : ℕ) (t : Tag) (next : Option Cut) (c : ℕ) → (n ≡ c → ⊥) → ConcernNone (acts_of_took l s cl n t next) c
none_took true s cl n t next c ne = none_part s n t c
none_took false s true n t next c ne = tt
none_took false s false n t next c ne = none_line n t next c ne

none_push : (H : List (Act × Tag)) (a : Act) (t : Tag) (c : ℕ) → ConcernNone H c → concerns a c ≡ false → ConcernNone (H ++ (a, t) ∷ []) c
none_push [] a t c none n = (n, tt)
none_push ((b, u) ∷ H) a t c none n = (none.0, none_push H a t c none.1 n)

none_idle : (numbers : List ℕ) (c : ℕ) → ConcernNone (idle_acts numbers) c
unfolding concerns
none_idle [] c = tt
none_idle (n ∷ numbers) c = none_push (idle_acts numbers) (Idle n) Done c (none_idle numbers c) refl

-- what is done with isn't open
is_over : (con clo : Bool) (u : List ℕ) → clo ≡ true → u ≡ [] → is_open_by con clo u ≡ false
is_over true clo u e f = rw (e, f) refl
is_over false clo u e f = refl

bytes_at : (here rested past : Bool) → (if not here then Some NoSuchConnection else if not rested then Some NotReady else reason_if past PieceTooLong) ≡ None → here ≡ true
bytes_at true rested past e = refl
bytes_at false rested past e = cc

piece_open : (T : Trace) (c : ℕ) (piece : List ℕ) (t : Tag) → IsAdmitted T (event.Bytes c piece) (Tagged t) → is_open T c ≡ true
piece_open T c piece t a =
    bytes_at (is_open T c) (is_empty (rest T c)) (nat_lt most_in_a_piece (length piece))
    (not_ignored t (ignored T a.lent (event.Bytes c piece)) (shown_at T.base T.log (history T) (event.Bytes c piece) a.is.tag) (a.event_tag ∙ ap event_tag_of a.is.is))

module _ (B : Records) (L : Log) (c : ℕ) where
  abbrev front : List Entry
  front = history (trace_of B L)

  done_still : (e : Event) (m : EventTag) → ConcernNone (acts_at L front e m) c → taken ((e, m) ∷ L) c ≡ taken L c → IsDone L front c
      → IsDone ((e, m) ∷ L) (history (trace_of B ((e, m) ∷ L))) c
  done_still e m none t d =
      let new = acts_at L front e m in
      record {
        over = closing_still B new (acts_from B L) c none ∙ d.over;
        all = ap (λ n. drop n (sent (history (trace_of B ((e, m) ∷ L))) c)) t ∙ (ap (drop (taken L c)) (sent_still B new (acts_from B L) c none) ∙ d.all);
      }

  done_open : IsDone L front c → is_open (trace_of B L) c ≡ true → ⊥
  done_open d e = true≢false (sym e ∙ is_over (connected front c) (closing front c) (untaken L front c) d.over d.all)

  done_bytes : (n : ℕ) (piece : List ℕ) (t : Tag) → IsAdmitted (trace_of B L) (event.Bytes n piece) (Tagged t) → IsDone L front c
      → IsDone ((event.Bytes n piece, Tagged t) ∷ L) (history (trace_of B ((event.Bytes n piece, Tagged t) ∷ L))) c
  done_bytes n piece t a d =
      let ne : n ≡ c → ⊥ = λ (q : n ≡ c). done_open d (subst (λ x. is_open (trace_of B L) x ≡ true) q (piece_open (trace_of B L) n piece t a)) in
      done_still (event.Bytes n piece) (Tagged t) (none_piece (has_newline piece) n t (next_line L front n piece) c ne) refl d

  done_took : (n count : ℕ) (t : Tag) → IsAdmitted (trace_of B L) (event.Took n count) (Tagged t) → IsDone L front c
      → IsDone ((event.Took n count, Tagged t) ∷ L) (history (trace_of B ((event.Took n count, Tagged t) ∷ L))) c
  done_took n count t a d =
      let ne : n ≡ c → ⊥ = λ (q : n ≡ c). done_open d (subst (λ x. is_open (trace_of B L) x ≡ true) q (takes_owed (trace_of B L) n count t a).here) in
      let q = ne_eqb n c ne in
      let same : taken ((event.Took n count, Tagged t) ∷ L) c ≡ taken L c = rw q refl in
      done_still (event.Took n count) (Tagged t) (none_took (is_left L front n count) (serving front n) (closing front n) n t (next_line L front n []) c ne) same d

  done_tick : (now : ℕ) (m : EventTag) → IsDone L front c → IsDone ((event.Tick now, m) ∷ L) (history (trace_of B ((event.Tick now, m) ∷ L))) c
  done_tick now Ignored d = done_still (event.Tick now) Ignored tt refl d
  done_tick now (Tagged t) d = done_still (event.Tick now) (Tagged t) (none_idle (idle_numbers L front (max (moment L) now)) c) refl d

  -- what an event other than its opening leaves
  done_on : (e : Event) (m : EventTag) → IsAdmitted (trace_of B L) e m → (e ≡ event.Connect → ⊥) → IsDone L front c → IsDone ((e, m) ∷ L) (history (trace_of B ((e, m) ∷ L))) c
  unfolding concerns
  done_on (event.Start host boot limits) Ignored a ne d = done_still (event.Start host boot limits) Ignored tt refl d
  done_on (event.Start host boot limits) (Tagged t) a ne d = done_still (event.Start host boot limits) (Tagged t) (refl, tt) refl d
  done_on event.Connect m a ne d = absurd (ne refl)
  done_on (event.Bytes n piece) Ignored a ne d = done_still (event.Bytes n piece) Ignored tt refl d
  done_on (event.Bytes n piece) (Tagged t) a ne d = done_bytes n piece t a d
  done_on (event.Took n count) Ignored a ne d = done_still (event.Took n count) Ignored tt refl d
  done_on (event.Took n count) (Tagged t) a ne d = done_took n count t a d
  done_on (event.Gone n) Ignored a ne d = done_still (event.Gone n) Ignored tt refl d
  done_on (event.Gone n) (Tagged t) a ne d = done_still (event.Gone n) (Tagged t) (refl, tt) refl d
  done_on (event.Tick now) m a ne d = done_tick now m d
  done_on (event.Deposit name class id text) Ignored a ne d = done_still (event.Deposit name class id text) Ignored tt refl d
  done_on (event.Deposit name class id text) (Tagged t) a ne d = done_still (event.Deposit name class id text) (Tagged t) (refl, tt) refl d
  done_on (event.Admin command) Ignored a ne d = done_still (event.Admin command) Ignored tt refl d
  done_on (event.Admin command) (Tagged t) a ne d = done_still (event.Admin command) (Tagged t) (refl, tt) refl d
  done_on (event.Restart boot) Ignored a ne d = done_still (event.Restart boot) Ignored tt refl d
  done_on (event.Restart boot) (Tagged t) a ne d = done_still (event.Restart boot) (Tagged t) (refl, tt) refl d

closes_now : (L : Log) (G : List Entry) (c : ℕ) → closes_at L G c ≡ true → IsDone L G c
closes_now L G c e = at (connected G c) (closing G c) (untaken L G c) refl refl e
  where
    at : (con clo : Bool) (u : List ℕ) → closing G c ≡ clo → untaken L G c ≡ u → (con && clo && is_empty u) ≡ true → IsDone L G c
    at true true [] p q h = record { over = p; all = q }
    at true true (x ∷ u) p q h = cc
    at true false u p q h = cc
    at false clo u p q h = cc

now_or : (now before : Bool) {P : Type 0} → (now ≡ true → P) → (before ≡ true → P) → (now || before) ≡ true → P
now_or true before f g e = f refl
now_or false before f g e = g e

done_connect : (B : Records) (L : Log) (c : ℕ) (m : EventTag) → (has_closed_by B L c ≡ true → IsDone L (history (trace_of B L)) c) → has_closed_by B ((event.Connect, m) ∷ L) c ≡ true
    → IsDone ((event.Connect, m) ∷ L) (history (trace_of B ((event.Connect, m) ∷ L))) c
done_connect B L c Ignored on h =
    now_or (closes_at ((event.Connect, Ignored) ∷ L) (history (trace_of B ((event.Connect, Ignored) ∷ L))) c) (has_closed_by B L c)
    (closes_now ((event.Connect, Ignored) ∷ L) (history (trace_of B ((event.Connect, Ignored) ∷ L))) c) (λ k. done_still B L c event.Connect Ignored tt refl (on k)) h
done_connect B L c (Tagged Done) on h =
    ⊎_elim
    (λ (q : next_number L ≡ c). let e = eq-eqb (next_number L) c q in let no : false ≡ true = rw e at h in cc)
    (λ (ne : next_number L ≡ c → ⊥).
    let e = ne_eqb (next_number L) c ne in
    let k : has_closed_by B L c ≡ true = rw e at h in
    let same : taken ((event.Connect, Tagged Done) ∷ L) c ≡ taken L c = rw e refl in
    done_still B L c event.Connect (Tagged Done) (concerns_open (next_number L) c ne, tt) same (on k))
    (cases_eq (next_number L) c)
done_connect B L c (Tagged Failed) on h =
    now_or (closes_at ((event.Connect, Tagged Failed) ∷ L) (history (trace_of B ((event.Connect, Tagged Failed) ∷ L))) c) (has_closed_by B L c)
    (closes_now ((event.Connect, Tagged Failed) ∷ L) (history (trace_of B ((event.Connect, Tagged Failed) ∷ L))) c) (λ k. done_still B L c event.Connect (Tagged Failed) tt refl (on k)) h
done_connect B L c (Tagged NoMemory) on h =
    now_or (closes_at ((event.Connect, Tagged NoMemory) ∷ L) (history (trace_of B ((event.Connect, Tagged NoMemory) ∷ L))) c) (has_closed_by B L c)
    (closes_now ((event.Connect, Tagged NoMemory) ∷ L) (history (trace_of B ((event.Connect, Tagged NoMemory) ∷ L))) c) (λ k. done_still B L c event.Connect (Tagged NoMemory) tt refl (on k)) h

done_other : (B : Records) (L : Log) (c : ℕ) (e : Event) (m : EventTag) → IsAdmitted (trace_of B L) e m → (e ≡ event.Connect → ⊥)
    → (has_closed_by B L c ≡ true → IsDone L (history (trace_of B L)) c) → (closes_at ((e, m) ∷ L) (history (trace_of B ((e, m) ∷ L))) c || has_closed_by B L c) ≡ true
    → IsDone ((e, m) ∷ L) (history (trace_of B ((e, m) ∷ L))) c
done_other B L c e m a ne on h =
    now_or (closes_at ((e, m) ∷ L) (history (trace_of B ((e, m) ∷ L))) c) (has_closed_by B L c) (closes_now ((e, m) ∷ L) (history (trace_of B ((e, m) ∷ L))) c)
    (λ k. done_on B L c e m a ne (on k)) h

done_event : (B : Records) (L : Log) (c : ℕ) (e : Event) (m : EventTag) → IsAdmitted (trace_of B L) e m
    → (has_closed_by B L c ≡ true → IsDone L (history (trace_of B L)) c) → has_closed_by B ((e, m) ∷ L) c ≡ true → IsDone ((e, m) ∷ L) (history (trace_of B ((e, m) ∷ L))) c
done_event B L c event.Connect m a on h = done_connect B L c m on h
done_event B L c (event.Start host boot limits) m a on h = done_other B L c (event.Start host boot limits) m a (λ q. cc) on h
done_event B L c (event.Bytes n piece) m a on h = done_other B L c (event.Bytes n piece) m a (λ q. cc) on h
done_event B L c (event.Took n count) m a on h = done_other B L c (event.Took n count) m a (λ q. cc) on h
done_event B L c (event.Gone n) m a on h = done_other B L c (event.Gone n) m a (λ q. cc) on h
done_event B L c (event.Tick now) m a on h = done_other B L c (event.Tick now) m a (λ q. cc) on h
done_event B L c (event.Deposit name class id text) m a on h = done_other B L c (event.Deposit name class id text) m a (λ q. cc) on h
done_event B L c (event.Admin command) m a on h = done_other B L c (event.Admin command) m a (λ q. cc) on h
done_event B L c (event.Restart boot) m a on h = done_other B L c (event.Restart boot) m a (λ q. cc) on h

closed_is_done : (B : Records) (L : Log) (c : ℕ) → AreAdmittedBy B L → has_closed_by B L c ≡ true → IsDone L (history (trace_of B L)) c
closed_is_done B [] c a h = cc
closed_is_done B ((e, m) ∷ L) c a h = done_event B L c e m a.0 (λ k. closed_is_done B L c a.1 k) h

-- ---- the law

-- nothing but its own closing ended it, so all is taken
all_if : (con clo : Bool) (u : List ℕ) → is_open_by con clo u ≡ false → con ≡ true → u ≡ []
all_if con clo [] e f = refl
all_if true true (x ∷ u) e f = cc
all_if true false (x ∷ u) e f = cc
all_if false clo (x ∷ u) e f = cc

pub taken_is_sent : TakenIsSent
taken_is_sent T a c =
    let G = history T in
    let s = sent G c in
    let i = taken T.log c in
    let b = begins T.base T.log c a in
    let whole : all_taken T c ++ untaken T.log G c ≡ s = ap (λ xs. xs ++ drop i s) b.is ∙ take-append-drop i s in
    record {
      while_open = λ here. ap (λ xs. all_taken T c ++ xs) (rest_open (is_open T c) (untaken T.log G c) here) ∙ whole;
      beginning = (untaken T.log G c, whole);
      closed = λ h.
          sym (append-nil (all_taken T c)) ∙ (ap (λ xs. all_taken T c ++ xs) (sym (closed_is_done T.base T.log c a h).all) ∙ whole);
      else_closed = λ over own. sym (append-nil (all_taken T c)) ∙ (ap (λ xs. all_taken T c ++ xs) (sym (all_if (connected G c) (closing G c) (untaken T.log G c) over own)) ∙ whole);
    }
