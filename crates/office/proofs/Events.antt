-- What one more event on a connection changes in what the trace says, and how what is kept follows it.
use Rattle.std.proofs.Common.{◌≡◌, ℕ, ◌+◌, ◌<◌, ◌≤◌, Bool, true, false, not, ◌&&◌, ◌||◌, cond, List, [], ◌∷◌, ◌++◌, drop, length, map, refl, sym, ◌∙◌, ap, ap₂, ⊎_elim, arith}
use Rattle.std.proofs.Common.{append_assoc, Option, Some, None, IsSome, slice_get, append-nil, eqb, ◌==◌, subst, eq-eqb, ne_eqb, string_bytes, nat_cmp, nat_lt, lt-ltb, le-ltb}
use Rattle.std.proofs.Common.{length-drop, drop-drop, true≢false}
use Rattle.std.proofs.lemmas.List.{drop_all}
use Rattle.std.proofs.lemmas.Bool.{cases_eq}
use Rattle.std.proofs.lemmas.Bool.Decides.{nat_tests}
use Rattle.std.specs.BTreeMap.{get, is_at}
use Rattle.popline.specs.Cutting.{Cut, cut_of, cut, pieces, onto_first, coming, has_newline, prefixed, begun}
use Rattle.creds.specs.declared.login_name.LoginName.{LoginName}
use Rattle.policy.specs.Policy.{Policy}
use Rattle.vault.specs.Records.{Records, Agree, class_of, without, in_maildrop}
use Rattle.vault.specs.declared.record.Message as store
use Rattle.session.specs.Session.{Session}
use Rattle.vault.specs.Changes.{Contents, records_of}
use Rattle.session.specs.View.{to_remove, visible, is_marked}
use Rattle.session.specs.declared.removals.Removals.{Removals}
use Rattle.office.specs.History.{Act, Line, Tag, Done, Failed, NoMemory, Entry, in_force, arrivals}
use Rattle.office.specs.Connections.{user, failures, setting, judging, connected, closing, acted, serving, sent, reading, is_quit}
use Rattle.office.specs.Sessions.{live, login, in_session, holder, marks, view, removed, removed_by, removed_after, quits_if, records}
use Rattle.office.specs.Formed.{is_formed}
use Rattle.office.specs.Replying.{is_empty, reply_to_cut, said_to_line, stamp}
use Rattle.office.specs.Told.{told}
use Rattle.office.specs.Events.{Limits, Trace, Event, Bytes, Took, EventTag, Tagged, given}
use Rattle.office.specs.Log.{opened, limits_in, moment, stream, taken, clock}
use Rattle.office.specs.Trace.{acts, history, line_act, act_of_part, acts_of_piece, acts_of_took, next_line, is_left, is_open, untaken}
use Rattle.office.specs.Expected.{most_in_a_piece, ignored}
use Rattle.office.specs.Output.{Output, nothing_owed, reads_text, Owes}
use Rattle.office.specs.Kept.{Kept, clocked}
use Rattle.office.specs.Answered.{name_cmp, tag_of, shown_of}
use Rattle.vault.specs.Calls.{has_grown}
use Rattle.office.specs.Outcomes.{Outcome, NotReady, PieceTooLong, event_tag_of, HasCause}
use Rattle.office.specs.Stands.{Seen, seen, Matches, IsSession, IsOver, IsKeptFor, is_seen_open, untaken_of, StandsFor}
use Rattle.office.specs.declared.office.Office.{Office}
use Rattle.office.specs.declared.login_state.LineOutcome.{LineOutcome}
use Rattle.office.specs.declared.login_state.LineOutcome.TheVariants as outcome
use Rattle.office.proofs.Owing.{none_owed}
use Rattle.office.proofs.Standing.{counters, counted}
use Rattle.office.proofs.Hearing.{streamed, took, lined, at_drop, Awaits, open_still}
use Rattle.office.proofs.Beginning.{begins_on, begun_on}
use Rattle.office.proofs.SmallLemmas.{and_false}

-- what a history says of a connection
pub record Facts : Type 0 where
  pub connected : Bool
  pub closing : Bool
  pub live : Bool
  pub acted : ℕ
  pub serving : Bool
  pub sent : List ℕ
  pub user : Option LoginName
  pub failures : ℕ
  pub stamp : List ℕ
  pub judging : Removals
  pub login : Option LoginName
  pub marks : List ℕ
  pub view : List store.Message

abbrev pub facts : Records → List (Act × Tag) → ℕ → Facts
facts B H q = record {
  connected = connected (told B H) q;
  closing = closing (told B H) q;
  live = live (told B H) q;
  acted = acted (told B H) q;
  serving = serving (told B H) q;
  sent = sent (told B H) q;
  user = user (told B H) q;
  failures = failures (told B H) q;
  stamp = stamp (told B H) q;
  judging = judging (told B H);
  login = login (told B H) q;
  marks = marks (told B H) q;
  view = view B (told B H) q;
}

-- what it says of the office as a whole
pub record Whole : Type 0 where
  pub office : ℕ × List ℕ × Removals
  pub rules : Policy

abbrev pub whole : Records → List (Act × Tag) → Whole
whole B H = record { office = setting (told B H); rules = in_force B (told B H) }

-- these with what the log says: the octets, how many were taken, and the clock
abbrev pub seen_by : List ℕ → ℕ → (clock : ℕ) → Facts → Seen
seen_by octets took clock f = record {
  connected = f.connected;
  closing = f.closing;
  live = f.live;
  stream = octets;
  acted = f.acted;
  serving = f.serving;
  sent = f.sent;
  taken = took;
  user = f.user;
  failures = f.failures;
  stamp = f.stamp;
  judging = f.judging;
  login = f.login;
  marks = f.marks;
  view = f.view;
  clock = clock;
}

-- a line that met want of memory ends its session
never : (quits live : Bool) → (not (quits || true) && live) ≡ false
never true live = refl
never false live = refl

module _ (B : Records) where
  -- ---- a line is nothing to another connection

  line_other : (H : List (Act × Tag)) (c q : ℕ) (t : Tag) (o : Option Cut) → eqb c q ≡ false → facts B (line_act c t o ++ H) q ≡ facts B H q
  line_other H c q t None e = refl
  line_other H c q Done (Some x) e = rw e refl
  line_other H c q Failed (Some x) e = rw e refl
  line_other H c q NoMemory (Some x) e = rw e refl

  pub piece_other : (H : List (Act × Tag)) (c q : ℕ) (t : Tag) (o : Option Cut) (b : Bool) → eqb c q ≡ false → facts B (acts_of_piece b c t o ++ H) q ≡ facts B H q
  piece_other H c q t o true e = line_other H c q t o e
  piece_other H c q t o false e = refl

  part_other : (H : List (Act × Tag)) (c q : ℕ) (s : Bool) (t : Tag) → eqb c q ≡ false → facts B (act_of_part s c t ++ H) q ≡ facts B H q
  part_other H c q true Done e = refl
  part_other H c q false Done e = refl
  part_other H c q true Failed e = rw e refl
  part_other H c q false Failed e = refl
  part_other H c q true NoMemory e = rw e refl
  part_other H c q false NoMemory e = rw e refl

  pub took_other : (H : List (Act × Tag)) (c q : ℕ) (t : Tag) (o : Option Cut) (a s b : Bool) → eqb c q ≡ false → facts B (acts_of_took a s b c t o ++ H) q ≡ facts B H q
  took_other H c q t o true s b e = part_other H c q s t e
  took_other H c q t o false s true e = refl
  took_other H c q t o false s false e = line_other H c q t o e

  -- ---- nor to the office as a whole

  line_whole : (H : List (Act × Tag)) (c : ℕ) (t : Tag) (o : Option Cut) → whole B (line_act c t o ++ H) ≡ whole B H
  line_whole H c t None = refl
  line_whole H c t (Some x) = refl

  pub piece_whole : (H : List (Act × Tag)) (c : ℕ) (t : Tag) (o : Option Cut) (b : Bool) → whole B (acts_of_piece b c t o ++ H) ≡ whole B H
  piece_whole H c t o true = line_whole H c t o
  piece_whole H c t o false = refl

  part_whole : (H : List (Act × Tag)) (c : ℕ) (s : Bool) (t : Tag) → whole B (act_of_part s c t ++ H) ≡ whole B H
  part_whole H c true Done = refl
  part_whole H c false Done = refl
  part_whole H c true Failed = refl
  part_whole H c false Failed = refl
  part_whole H c true NoMemory = refl
  part_whole H c false NoMemory = refl

  pub took_whole : (H : List (Act × Tag)) (c : ℕ) (t : Tag) (o : Option Cut) (a s b : Bool) → whole B (acts_of_took a s b c t o ++ H) ≡ whole B H
  took_whole H c t o true s b = part_whole H c s t
  took_whole H c t o false s true = refl
  took_whole H c t o false s false = line_whole H c t o

  -- ---- what met want of memory changes no record

  lacking_removed : (G : List Entry) (c : ℕ) (b : Bool) (taken_by : ℕ → List store.Message) → removed_after (quits_if (b && false) c) taken_by (removed B G) ≡ removed B G
  lacking_removed G c true taken_by = refl
  lacking_removed G c false taken_by = refl

  pub lacking_records : (H : List (Act × Tag)) (c : ℕ) (x : Cut) → records B (told B ((Line c x, NoMemory) ∷ H)) ≡ records B (told B H)
  lacking_records H c x =
      let r = lacking_removed (told B H) c (is_quit (reading x))
      (λ n. removed_by (in_session (told B H) n) (λ (name : LoginName). to_remove class_of (in_force B (told B H)) name (marks (told B H) n) (view B (told B H) n))) in
      rw r refl

-- what a login would find by a trace
abbrev pub finds_by : Trace → LoginName → List store.Message
finds_by T name = visible class_of (in_force T.base (history T)) name (without (in_maildrop name.maildrop (arrivals T.base (history T))) (removed T.base (history T)))

-- the entry of a line
abbrev pub line_entry : Trace → ℕ → Cut → LineOutcome → Entry
line_entry T c x w = record { act = Line c x; tag = tag_of w; said = said_to_line T.base (history T) c x (tag_of w) }

-- ---- a piece

module _ (T : Trace) (c : ℕ) (p : List ℕ) where
  pub seen-bytes_other : (q : ℕ) (t : Tag) → eqb c q ≡ false → seen (given T (Bytes c p) (Tagged t)) q ≡ seen T q
  seen-bytes_other q t e =
      let s : (stream (given T (Bytes c p) (Tagged t)).log q, clock (given T (Bytes c p) (Tagged t)).log q) ≡ (stream T.log q, clock T.log q) = rw e refl in
      ap₂ (λ (x : List ℕ × ℕ) f. seen_by x.0 (taken T.log q) x.1 f) s (piece_other T.base (acts T) c q t (next_line T.log (history T) c p) (has_newline p) e)

  pub whole-bytes : (t : Tag) → whole T.base (acts (given T (Bytes c p) (Tagged t))) ≡ whole T.base (acts T)
  whole-bytes t = piece_whole T.base (acts T) c t (next_line T.log (history T) c p) (has_newline p)

  pub seen-bytes_part : has_newline p ≡ false → (now : ℕ) → seen (given T (Bytes c p) (Tagged Done)) c ≡ streamed (seen T c) p now
  seen-bytes_part h now = let e = eq-eqb c c refl in rw (h, e) refl

  pub records-bytes_part : (t : Tag) → has_newline p ≡ false → records T.base (history (given T (Bytes c p) (Tagged t))) ≡ records T.base (history T)
  records-bytes_part t h = rw h refl

  pub seen-bytes_line : (now : ℕ) → now ≡ moment T.log → (w : LineOutcome) (x : Cut) → has_newline p ≡ true → next_line T.log (history T) c p ≡ Some x
      → seen (given T (Bytes c p) (Tagged (tag_of w))) c ≡ lined (streamed (seen T c) p now) x (reply_to_cut T.base (history T) c x (tag_of w)) (finds_by T)
  seen-bytes_line now same outcome.Done x h n = let e = eq-eqb c c refl in rw (same, h, n, e) refl
  seen-bytes_line now same outcome.Failed x h n = let e = eq-eqb c c refl in rw (same, h, n, e) refl

  pub records-bytes_line : (w : LineOutcome) (x : Cut) → has_newline p ≡ true → next_line T.log (history T) c p ≡ Some x
      → records T.base (history (given T (Bytes c p) (Tagged (tag_of w)))) ≡ records T.base (line_entry T c x w ∷ history T)
  records-bytes_line w x h n = rw (h, n) refl

  pub records-bytes_lacking : (x : Cut) → has_newline p ≡ true → next_line T.log (history T) c p ≡ Some x
      → records T.base (history (given T (Bytes c p) (Tagged NoMemory))) ≡ records T.base (history T)
  records-bytes_lacking x h n = rw (h, n) (lacking_records T.base (acts T) c x)

  pub over-bytes : (x : Cut) → has_newline p ≡ true → next_line T.log (history T) c p ≡ Some x → IsOver (seen (given T (Bytes c p) (Tagged NoMemory)) c)
  over-bytes x h n = let e = eq-eqb c c refl in record { closed = rw (h, n, e) refl; authorization = rw (h, n, e) (never (is_quit (reading x)) _) }

-- ---- a LF in a piece makes a line

some_onto : (b : ℕ) (ps : List (List ℕ)) (q : List ℕ) (qs : List (List ℕ)) → ps ≡ q ∷ qs → (r : List ℕ) × (rs : List (List ℕ)) × (onto_first b ps ≡ r ∷ rs)
some_onto b ps q qs e = rw e (b ∷ q, qs, refl)

some_more : (b : ℕ) (bs : List ℕ) (t : Bool) → cond t true (has_newline bs) ≡ true → (has_newline bs ≡ true → (q : List ℕ) × (qs : List (List ℕ)) × (pieces bs ≡ q ∷ qs))
    → (r : List ℕ) × (rs : List (List ℕ)) × (cond t ([] ∷ pieces bs) (onto_first b (pieces bs)) ≡ r ∷ rs)
some_more b bs true e rest = ([], pieces bs, refl)
some_more b bs false e rest = let h = rest e in some_onto b (pieces bs) h.0 h.1 h.2

pieces_some : (p : List ℕ) → has_newline p ≡ true → (q : List ℕ) × (qs : List (List ℕ)) × (pieces p ≡ q ∷ qs)
pieces_some [] e = cc
pieces_some (b ∷ bs) e = some_more b bs (b == 10) e (pieces_some bs)

pub next_there : (k' : Contents) (s : Seen) (k : Kept) (p : List ℕ) → Awaits k' s k p → has_newline p ≡ true → (x : Cut) × (slice_get (cut s.stream) s.acted ≡ Some x)
next_there k' s k p m h =
    let q = pieces_some p h in
    let e : drop s.acted (cut s.stream) ≡ cut_of (begun k.held ++ q.0) ∷ map cut_of q.1 =
    ap (λ r. drop s.acted (cut r)) (sym (append-nil s.stream)) ∙ (m.lines [] ∙ (ap (λ r. coming k.held r) (append-nil p) ∙ ap (λ ps. map cut_of (prefixed (begun k.held) ps)) q.2)) in
    (cut_of (begun k.held ++ q.0), (at_drop s.acted (cut s.stream) _ _ e).0)

-- ---- the office as a whole

pub is_apart : (c q : ℕ) → (c ≡ q → ⊥) → is_at (nat_cmp c) q ≡ false
is_apart c q h = grind (arith, nat_tests)

-- What happened on one connection: what the store keeps, what is kept of the connection and of each other, and the locks.
pub record Moves {V : Type 0} (Holds : V → Contents → Type 0) (o o' : Office V) (T : Trace) (k : Contents) (c : ℕ) (T' : Trace) : Type 0 where
  pub contents : Contents
  pub held : Holds o'.vault contents
  pub agree : Agree (records_of contents) (records T'.base (history T'))
  pub here : IsKeptFor contents (seen T' c) (get nat_cmp o'.connections c)
  pub carried : (q : ℕ) → eqb c q ≡ false → IsKeptFor k (seen T q) (get nat_cmp o.connections q) → IsKeptFor contents (seen T q) (get nat_cmp o.connections q)
  pub locks : (d : List ℕ) → get name_cmp o'.locks d ≡ holder (history T') d

moved_so : {V : Type 0} (Holds : V → Contents → Type 0) (o o' : Office V) (T : Trace) (e : Event) (t : Tag) (c : ℕ) → (st : StandsFor Holds o T) → is_formed T.log e ≡ true
    → o'.policy ≡ o.policy → o'.boot ≡ o.boot → string_bytes o'.host ≡ string_bytes o.host → o'.limits ≡ o.limits → counters o' ≡ counters o
    → whole T.base (acts (given T e (Tagged t))) ≡ whole T.base (acts T) → limits_in (given T e (Tagged t)).log ≡ limits_in T.log
    → counted (given T e (Tagged t)).log ≡ counted T.log → IsSome (get nat_cmp o.connections c)
    → ((q : ℕ) → eqb c q ≡ false → seen (given T e (Tagged t)) q ≡ seen T q) → ((q : ℕ) → (c ≡ q → ⊥) → get nat_cmp o'.connections q ≡ get nat_cmp o.connections q)
    → Moves Holds o o' T st.keeps.contents c (given T e (Tagged t)) → StandsFor Holds o' (given T e (Tagged t))
moved_so Holds o o' T e t c st formed p b h l n same settings number there others connections m =
    let rules : in_force T.base (history (given T e (Tagged t))) ≡ in_force T.base (history T) = ap (λ (w : Whole). w.rules) same in
    let newest : opened (given T e (Tagged t)).log ≡ opened T.log = ap (λ (x : ℕ × ℕ). x.0) number in
    record {
      keeps = record { contents = m.contents; held = m.held; agree = m.agree; sound = st.keeps.sound; formed = rw formed st.keeps.formed; began = begun_on e (Tagged t) T.log st.began };
      began = begins_on e (Tagged t) T.log st.began;
      policy = p ∙ (st.policy ∙ sym rules);
      boot = b ∙ (st.boot ∙ ap (λ (w : Whole). w.office.0) (sym same));
      host = h ∙ (st.host ∙ ap (λ (w : Whole). w.office.1) (sym same));
      judged = ap (λ (x : Limits). x.removals) l ∙ (st.judged ∙ ap (λ (w : Whole). w.office.2) (sym same));
      limits = l ∙ (st.limits ∙ sym settings);
      moment = ap (λ (x : ℕ × ℕ). x.1) n ∙ (st.moment ∙ ap (λ (x : ℕ × ℕ). x.1) (sym number));
      numbered = λ q. ⊎_elim
          (λ (e : c ≡ q) some. rw (newest, sym e) (st.numbered c there))
          (λ (ne : c ≡ q → ⊥) some. rw newest (st.numbered q (rw (connections q ne) at some)))
          (cases_eq c q);
      opened = ap (λ (x : ℕ × ℕ). x.0) n ∙ (st.opened ∙ sym newest);
      connections = λ q. ⊎_elim
          (λ (same : c ≡ q). subst (λ q. IsKeptFor m.contents (seen (given T e (Tagged t)) q) (get nat_cmp o'.connections q)) same m.here)
          (λ (ne : c ≡ q → ⊥). rw (others q (ne_eqb c q ne), connections q ne) (m.carried q (ne_eqb c q ne) (st.connections q)))
          (cases_eq c q);
      locks = m.locks;
    }

-- if only one connection changes, it is enough to look at that
pub moved : {V : Type 0} (Holds : V → Contents → Type 0) (o o' : Office V) (T : Trace) (e : Event) (m : EventTag) (t : Tag) (c : ℕ) → m ≡ Tagged t
    → (st : StandsFor Holds o T) → is_formed T.log e ≡ true
    → o'.policy ≡ o.policy → o'.boot ≡ o.boot → string_bytes o'.host ≡ string_bytes o.host → o'.limits ≡ o.limits → counters o' ≡ counters o
    → whole T.base (acts (given T e (Tagged t))) ≡ whole T.base (acts T) → limits_in (given T e (Tagged t)).log ≡ limits_in T.log
    → counted (given T e (Tagged t)).log ≡ counted T.log → IsSome (get nat_cmp o.connections c)
    → ((q : ℕ) → eqb c q ≡ false → seen (given T e (Tagged t)) q ≡ seen T q) → ((q : ℕ) → (c ≡ q → ⊥) → get nat_cmp o'.connections q ≡ get nat_cmp o.connections q)
    → Moves Holds o o' T st.keeps.contents c (given T e (Tagged t)) → StandsFor Holds o' (given T e m)
moved Holds o o' T e m t c mark st formed p b h l n same settings number there others connections moves =
    rw mark (moved_so Holds o o' T e t c st formed p b h l n same settings number there others connections moves)

-- what a line's event shows
pub marked : (w : LineOutcome) (o : Outcome) → o ≡ shown_of w → event_tag_of o ≡ Tagged (tag_of w)
marked outcome.Done o e = rw e refl
marked outcome.Failed o e = rw e refl

-- a session that is kept is one of a trace that says the same of it
pub same_session : (k : Contents) (s s' : Seen) (o : Option Session) → s'.live ≡ s.live → s'.login ≡ s.login → s'.judging ≡ s.judging
    → s'.marks ≡ s.marks → s'.view ≡ s.view → IsSession k s o → IsSession k s' o
same_session k s s' None l n j m v i = l ∙ i
same_session k s s' (Some o) l n j m v i = record {
  live = l ∙ i.live;
  login = n ∙ i.login;
  judged = i.judged ∙ sym j;
  marks = λ q. i.marks q ∙ ap (λ ms. is_marked ms q) (sym m);
  kept = i.kept;
  lies = i.lies;
  view = i.view ∙ sym v;
}

not_closing : (a b : Bool) (xs : List ℕ) → xs ≡ [] → (a && not (b && is_empty xs)) ≡ true → b ≡ false
not_closing true true [] e h = absurd (true≢false (sym h))
not_closing true false xs e h = refl
not_closing false b xs e h = absurd (true≢false (sym h))
not_closing true true (x ∷ xs) e h = cc

-- a piece that comes if nothing is owed
pub awaits_bytes : (c : Contents) (s : Seen) (k : Kept) (p : List ℕ) (now : ℕ) → Matches c s k → k.output ≡ nothing_owed → length p ≤ most_in_a_piece
    → Awaits c (streamed s p now) (clocked now p k) p
awaits_bytes c s k p now m o fits = record {
  opened = m.opened;
  session = same_session c s (streamed s p now) k.session refl refl refl refl refl m.session;
  open_yet = not_closing s.connected s.closing (untaken_of s) (none_owed c k.session k.output (untaken_of s) m.owed o) m.opened;
  taken = m.taken;
  nothing = o;
  owed = none_owed c k.session k.output (untaken_of s) m.owed o;
  closing = m.closing;
  user = m.user;
  failures = m.failures;
  stamp = m.stamp;
  judged = m.judged;
  clock = ap (λ x. cond (has_newline p) now x) m.clock;
  lines = λ more. rw append_assoc (m.lines (p ++ more) ∙ ap (λ q. coming k.held (q ++ (p ++ more))) (m.cut_whole (none_owed c k.session k.output (untaken_of s) m.owed o)));
  piece = fits;
}

-- ---- a piece is answered

-- a piece that isn't ignored is answered what became of its line
pub bytes_goes : (T : Trace) (lent : ℕ → ℕ) (c : ℕ) (p : List ℕ) → is_open T c ≡ true → untaken T.log (history T) c ≡ [] → length p ≤ most_in_a_piece → ignored T lent (Bytes c p) ≡ None
bytes_goes T lent c p o r fits = let within : nat_lt most_in_a_piece (length p) ≡ false = le-ltb most_in_a_piece (length p) fits in rw (o, r, within) refl

-- a piece that comes while something is owed
pub bytes_waits : (T : Trace) (lent : ℕ → ℕ) (c : ℕ) (p : List ℕ) → is_open T c ≡ true → is_empty (untaken T.log (history T) c) ≡ false → ignored T lent (Bytes c p) ≡ Some NotReady
bytes_waits T lent c p o some = rw (o, some) refl

-- one that is too long
pub bytes_too_long : (T : Trace) (lent : ℕ → ℕ) (c : ℕ) (p : List ℕ) → is_open T c ≡ true → untaken T.log (history T) c ≡ [] → nat_lt most_in_a_piece (length p) ≡ true
    → ignored T lent (Bytes c p) ≡ Some PieceTooLong
bytes_too_long T lent c p o r long = rw (o, r, long) refl

-- ---- a Took

module _ (T : Trace) (c n : ℕ) where
  abbrev now_left : Bool
  now_left = is_left T.log (history T) c n

  abbrev next : Option Cut
  next = next_line T.log (history T) c []

  pub seen-took_other : (q : ℕ) (t : Tag) → eqb c q ≡ false → seen (given T (Took c n) (Tagged t)) q ≡ seen T q
  seen-took_other q t e =
      let k : (taken (given T (Took c n) (Tagged t)).log q, clock (given T (Took c n) (Tagged t)).log q) ≡ (taken T.log q, clock T.log q) = rw e refl in
      ap₂ (λ (x : ℕ × ℕ) f. seen_by (stream T.log q) x.0 x.1 f) k (took_other T.base (acts T) c q t next now_left (serving (history T) c) (closing (history T) c) e)

  pub whole-took : (t : Tag) → whole T.base (acts (given T (Took c n) (Tagged t))) ≡ whole T.base (acts T)
  whole-took t = took_whole T.base (acts T) c t next now_left (serving (history T) c) (closing (history T) c)

  -- what the trace says of a connection after its Took, by whether something is left, whether a message is served, whether it is
  -- closing, and its next line
  abbrev after_took : (t : Tag) (a s b : Bool) (o : Option Cut) → Seen
  after_took t a s b o = seen_by (stream T.log c) (taken T.log c + n) (moment T.log) (facts T.base (acts_of_took a s b c t o ++ acts T) c)

  seen-took : (t : Tag) (a b : Bool) (o : Option Cut) → now_left ≡ a → closing (history T) c ≡ b → next ≡ o
      → seen (given T (Took c n) (Tagged t)) c ≡ after_took t a (serving (history T) c) b o
  seen-took t a b o p q r =
      let s = serving (history T) c in
      let y = closing (history T) c in
      ap (λ k. seen_by (stream T.log c) (cond k (taken T.log c + n) (taken T.log c)) (cond k (moment T.log) (clock T.log c)) (facts T.base (acts_of_took now_left s y c t next ++ acts T) c))
      (eq-eqb c c refl)
      ∙ (ap (λ a. after_took t a s y next) p ∙ (ap (λ b. after_took t a s b next) q ∙ ap (λ o. after_took t a s b o) r))

  at_moment : (now : ℕ) → now ≡ moment T.log → took (seen T c) n (moment T.log) ≡ took (seen T c) n now
  at_moment now same = ap (took (seen T c) n) (sym same)

  part_done : (s b : Bool) (o : Option Cut) → after_took Done true s b o ≡ took (seen T c) n (moment T.log)
  part_done true b o = refl
  part_done false b o = refl

  -- some of what is owed is taken
  pub seen-took_part : (now : ℕ) → now ≡ moment T.log → now_left ≡ true → seen (given T (Took c n) (Tagged Done)) c ≡ took (seen T c) n now
  seen-took_part now same h = seen-took Done true (closing (history T) c) next h refl refl ∙ (part_done (serving (history T) c) (closing (history T) c) next ∙ at_moment now same)

  -- all is taken, and no line acts
  pub seen-took_closing : (now : ℕ) → now ≡ moment T.log → now_left ≡ false → closing (history T) c ≡ true → seen (given T (Took c n) (Tagged Done)) c ≡ took (seen T c) n now
  seen-took_closing now same h b = seen-took Done false true next h b refl ∙ at_moment now same

  pub seen-took_none : (now : ℕ) → now ≡ moment T.log → now_left ≡ false → closing (history T) c ≡ false → next ≡ None → seen (given T (Took c n) (Tagged Done)) c ≡ took (seen T c) n now
  seen-took_none now same h b o = seen-took Done false false None h b o ∙ at_moment now same

  -- all is taken, and a line acts
  pub seen-took_line : (now : ℕ) → now ≡ moment T.log → (w : LineOutcome) (x : Cut) → now_left ≡ false → closing (history T) c ≡ false → next ≡ Some x
      → seen (given T (Took c n) (Tagged (tag_of w))) c ≡ lined (took (seen T c) n now) x (reply_to_cut T.base (history T) c x (tag_of w)) (finds_by T)
  seen-took_line now same outcome.Done x h b o = let e = eq-eqb c c refl in seen-took Done false false (Some x) h b o ∙ rw (e, same) refl
  seen-took_line now same outcome.Failed x h b o = let e = eq-eqb c c refl in seen-took Failed false false (Some x) h b o ∙ rw (e, same) refl

  -- the locks if no line acts
  part_holder : (s : Bool) (d : List ℕ) → holder (told T.base (act_of_part s c Done ++ acts T)) d ≡ holder (history T) d
  part_holder true d = refl
  part_holder false d = refl

  pub same_part : now_left ≡ true → (d : List ℕ) → holder (history (given T (Took c n) (Tagged Done))) d ≡ holder (history T) d
  same_part h d = rw h (part_holder (serving (history T) c) d)

  pub same_closing : now_left ≡ false → closing (history T) c ≡ true → (d : List ℕ) → holder (history (given T (Took c n) (Tagged Done))) d ≡ holder (history T) d
  same_closing h b d = rw (h, b) refl

  -- the records if no line acts, if one does, and if it met want of memory
  part_records : (s : Bool) → records T.base (told T.base (act_of_part s c Done ++ acts T)) ≡ records T.base (history T)
  part_records true = refl
  part_records false = refl

  pub records-took_part : now_left ≡ true → records T.base (history (given T (Took c n) (Tagged Done))) ≡ records T.base (history T)
  records-took_part h = rw h (part_records (serving (history T) c))

  pub records-took_closing : now_left ≡ false → closing (history T) c ≡ true → records T.base (history (given T (Took c n) (Tagged Done))) ≡ records T.base (history T)
  records-took_closing h b = rw (h, b) refl

  pub records-took_none : now_left ≡ false → closing (history T) c ≡ false → next ≡ None → records T.base (history (given T (Took c n) (Tagged Done))) ≡ records T.base (history T)
  records-took_none h b o = rw (h, b, o) refl

  pub records-took_line : (w : LineOutcome) (x : Cut) → now_left ≡ false → closing (history T) c ≡ false → next ≡ Some x
      → records T.base (history (given T (Took c n) (Tagged (tag_of w)))) ≡ records T.base (line_entry T c x w ∷ history T)
  records-took_line w x h b o = rw (h, b, o) refl

  pub records-took_lacking : (x : Cut) → now_left ≡ false → closing (history T) c ≡ false → next ≡ Some x
      → records T.base (history (given T (Took c n) (Tagged NoMemory))) ≡ records T.base (history T)
  records-took_lacking x h b o = rw (h, b, o) (lacking_records T.base (acts T) c x)

  pub over-took : (x : Cut) → now_left ≡ false → closing (history T) c ≡ false → next ≡ Some x → IsOver (seen (given T (Took c n) (Tagged NoMemory)) c)
  over-took x h b o =
      let e = eq-eqb c c refl in
      let s = seen-took NoMemory false false (Some x) h b o in
      record { closed = ap is_seen_open s ∙ rw e refl; authorization = ap (λ (s : Seen). s.live) s ∙ rw e (never (is_quit (reading x)) _) }

-- ---- what is kept, at a Took

taken_fits : (s : Seen) (n : ℕ) → n ≤ length (untaken_of s) → s.taken ≤ length s.sent → s.taken + n ≤ length s.sent
taken_fits s n h le = omega (arith, h, length-drop s.taken s.sent)

owed_took : (s : Seen) (n now : ℕ) → untaken_of (took s n now) ≡ drop n (untaken_of s)
owed_took s n now = sym (drop-drop n s.taken s.sent)

open_connected : (a b : Bool) → (a && not b) ≡ true → a ≡ true
open_connected true b e = refl
open_connected false b e = e

open_quiet : (a b : Bool) → a ≡ true → (a && not (false && b)) ≡ true
open_quiet true b e = refl
open_quiet false b e = e

-- a Took of a part
pub left_over : (s : Seen) (n : ℕ) → n < length (untaken_of s) → nat_lt (s.taken + n) (length s.sent) ≡ true
left_over s n h = lt-ltb (s.taken + n) (length s.sent) (omega (arith, h, length-drop s.taken s.sent))

pub all_over : (s : Seen) (n : ℕ) → length (untaken_of s) ≤ n → nat_lt (s.taken + n) (length s.sent) ≡ false
all_over s n h = le-ltb (s.taken + n) (length s.sent) (omega (arith, h, length-drop s.taken s.sent))

not_empty : (xs : List ℕ) → 0 < length xs → is_empty xs ≡ false
not_empty [] h = absurd (omega arith)
not_empty (x ∷ xs) h = refl

pub part_took : (c : Contents) (s : Seen) (k : Kept) (o : Output) (n now : ℕ) → Matches c s k → n < length (untaken_of s) → Owes c k.session o (drop n (untaken_of s))
    → (reads_text o.source ≡ true → reads_text k.output.source ≡ true) → Matches c (took s n now) (record k { output = o; clock = now })
part_took c s k out n now m h owes kind =
    let o = owed_took s n now in
    let some : 0 < length (drop n (untaken_of s)) = omega (arith, h, length-drop n (untaken_of s)) in
    let e = not_empty (drop n (untaken_of s)) some in
    record {
      opened = rw (o, e) (open_still s.connected (s.closing && is_empty (untaken_of s)) s.closing m.opened);
      taken = taken_fits s n (omega (arith, h)) m.taken;
      owed = subst (λ xs. Owes c k.session out xs) (sym o) owes;
      serving = λ t. m.serving (kind t);
      session = same_session c s (took s n now) k.session refl refl refl refl refl m.session;
      parted = m.parted;
      closing = m.closing;
      user = m.user;
      failures = m.failures;
      stamp = m.stamp;
      judged = m.judged;
      clock = refl;
      lines = m.lines;
      cut_whole = λ none. absurd (omega (arith, some, ap length (sym o ∙ none)));
      line_kept = m.line_kept;
      piece_kept = m.piece_kept;
    }

-- all is taken, and the connection isn't closing
pub awaits_took : (c : Contents) (s : Seen) (k : Kept) (n now : ℕ) → Matches c s k → n ≡ length (untaken_of s) → s.closing ≡ false
    → Awaits c (took s n now) (record k { output = nothing_owed; clock = now }) k.pending
awaits_took c s k n now m e b =
    let le : length (untaken_of s) ≤ n = omega (arith, e) in
    let none : drop n (untaken_of s) ≡ [] = drop_all n (untaken_of s) le in
    record {
      opened = rw b (open_quiet s.connected (is_empty (untaken_of (took s n now))) (open_connected s.connected (s.closing && is_empty (untaken_of s)) m.opened));
      taken = taken_fits s n (omega (arith, e)) m.taken;
      nothing = refl;
      owed = owed_took s n now ∙ none;
      session = same_session c s (took s n now) k.session refl refl refl refl refl m.session;
      open_yet = b;
      closing = m.closing;
      user = m.user;
      failures = m.failures;
      stamp = m.stamp;
      judged = m.judged;
      clock = refl;
      lines = m.lines;
      piece = m.piece_kept;
    }

-- all is taken, and the connection is closing
pub closed_took : (s : Seen) (n now : ℕ) → length (untaken_of s) ≤ n → s.closing ≡ true → is_seen_open (took s n now) ≡ false
closed_took s n now le b = let none : drop n (untaken_of s) ≡ [] = drop_all n (untaken_of s) le in rw (owed_took s n now, none, b) (and_false s.connected)

-- no octet more is no other stream
pub next_kept : (T : Trace) (c : ℕ) → next_line T.log (history T) c [] ≡ slice_get (cut (stream T.log c)) (acted (history T) c)
next_kept T c = ap (λ octets. slice_get (cut octets) (acted (history T) c)) (append-nil (stream T.log c))

-- a taking of what is lent is not ignored
pub took_goes : (T : Trace) (lent : ℕ → ℕ) (c n : ℕ) → is_open T c ≡ true → 0 < n → n ≤ lent c → ignored T lent (Took c n) ≡ None
took_goes T lent c n o p q =
    let some : (n == 0) ≡ false = grind (arith, nat_tests, p) in
    let within : nat_lt (lent c) n ≡ false = le-ltb (lent c) n q in
    rw (o, some, within) refl

-- ---- refusals and their causes

-- that a line failed has its cause
pub line_cause : (before now : ℕ) (w : LineOutcome) (o : Outcome) → o ≡ shown_of w → (w ≡ outcome.Failed → has_grown before now ≡ true) → HasCause before now o
line_cause before now outcome.Done o e h = subst (HasCause before now) (sym e) tt
line_cause before now outcome.Failed o e h = subst (HasCause before now) (sym e) (h refl)
