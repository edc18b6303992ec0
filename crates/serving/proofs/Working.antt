-- That parts of a turn, one after the other, do what they do all together.
use Rattle.vault.specs.declared.vault.Vault.{Ghosts}
use Rattle.std.proofs.Common.{◌≡◌, ℕ, ◌+◌, ◌<◌, ◌≤◌, Bool, true, false, not, ◌&&◌, ◌||◌, ◌==◌, List, [], ◌∷◌, ◌++◌, length, min, refl, sym, ◌∙◌, ap, arith, Some, Option, ⊎_elim}
use Rattle.std.proofs.Common.{◌⊎◌, inl, inr, subst, true≢false, append_assoc, length-append, le-leb, leb-true, nat_le, nat_lt, eqb-true}
use Rattle.std.specs.Bool.{if◌then◌else◌}
use Rattle.std.specs.List.{All, Contains, list_any, filter, filter_map}
use Rattle.std.proofs.lemmas.Bool.{or_cases, ltb-true, lt-ltb}
use Rattle.std.proofs.lemmas.List.{append-nil}
use Rattle.std.proofs.lemmas.List.Elements.{All-nil, All-head, All-tail, All-append, All-weaker, filter_map-append, filter-append, Contains-append_left, Contains-append_right}
use Rattle.std.proofs.lemmas.List.Folds.{list_any-append}
use Rattle.vault.specs.Records.{Records}
use Rattle.vault.specs.Calls.{greatest_count, has_grown}
use Rattle.office.specs.History.{Tag, Done, NoMemory}
use Rattle.office.specs.Replying.{is_empty}
use Rattle.office.specs.Events.{Event, EventTag, Tagged, Ignored, Log, Trace}
use Rattle.office.specs.Events as event
use Rattle.office.specs.Trace.{is_open, rest_if}
use Rattle.office.specs.Expected.{or_ignored, reason_if}
use Rattle.office.specs.Outcomes.{Outcome, Reason, NoSuchConnection, event_tag_of, HasCause as HasItsCause}
use Rattle.office.specs.Outcomes as outcome
use Rattle.office.specs.Quitting.{brings_long_quit}
use Rattle.office.specs.Taken.{trace_of, IsAdmitted}
use Rattle.office.specs.Stands.{StandsFor, vault_of}
use Rattle.office.specs.declared.office.Office.{Office}
use Rattle.office.specs.Stopping.{StaysUpUnless, StopLeaves}
use Rattle.serving.proofs.Stopping.{outlasts_none, outlasts_one, outlasts_then}
use Rattle.serving.specs.declared.wire.Link.{Link}
use Rattle.serving.specs.Paces.{first_line}
use Rattle.serving.specs.Calls.{Call, Looked, Read}
use Rattle.serving.specs.declared.wire.Port.TheVariants.{Pop}
use Rattle.serving.specs.declared.links.Seat.{Seat}
use Rattle.serving.specs.declared.newcomers.Newcomer.{Newcomer}
use Rattle.serving.specs.Works.{is_admin, is_read_of, is_later_of, is_taking_of, is_cut_of, is_cut, most_writes, octets_taken, is_written_out, had_its_turn, openings, is_opening}
use Rattle.serving.specs.Works.{AreNewlyAdmitted, is_failed, IsLateGone, AreLateGone, HasCause, AreCaused, WasAsked, IsKeptBack, StaysUnread, IsReadByLine, IsHeldBack, LiesUnread}
use Rattle.serving.specs.Quits.{AwaitsQuit}
use Rattle.serving.specs.Ways.{Way, HadTurn}
use Rattle.serving.specs.Parts.{WasGiven, Part, Asking, Giving, IsQuiet, IsQuietFor}
use Rattle.serving.proofs.Staying.{Fewer, fewer_framed, frame_read, frame_took, frame_gone, fewer_tick, deposit_same, fewer_command}

-- ---- one after the other

pub newly_then : (B : Records) (L g1 g2 : Log) → AreNewlyAdmitted B L g1 → AreNewlyAdmitted B (g1 ++ L) g2 → AreNewlyAdmitted B L (g2 ++ g1)
newly_then B L g1 [] a b = a
newly_then B L g1 ((e, m) ∷ g2) a b = (subst (λ l. IsAdmitted (trace_of B l) e m) (sym (append_assoc g2 g1 L)) b.0, newly_then B L g1 g2 a b.1)

pub or_true : (b : Bool) → (b || true) ≡ true
or_true true = refl
or_true false = refl

below : (a b c : ℕ) → a ≤ b → b ≤ c → a ≤ c
below a b c h k = omega (arith, h, k)

-- a count that grew within has grown
pub grown_more : (a b c d : ℕ) → a ≤ b → c ≤ d → has_grown b c ≡ true → has_grown a d ≡ true
grown_more a b c d low high h =
    ⊎_elim
    (λ (less : nat_lt b c ≡ true).
    (let n : b < c = ltb-true b c less in
    let k : nat_lt a d ≡ true = lt-ltb a d (omega (arith, n, low, high)) in
    ap (λ x. x || nat_le greatest_count d) k))
    (λ (full : nat_le greatest_count c ≡ true).
    (let n : greatest_count ≤ c = leb-true greatest_count c full in
    let k : nat_le greatest_count d ≡ true = le-leb greatest_count d (below greatest_count c d n high) in
    ap (λ x. nat_lt a d || x) k ∙ or_true (nat_lt a d)))
    (or_cases (nat_lt b c) (nat_le greatest_count c) h)

-- one event that failed
failed_one : (e : Event) (m : EventTag) (o : Outcome) (a b : ℕ) → m ≡ event_tag_of o → HasItsCause a b o → list_any is_failed ((e, m) ∷ []) ≡ true → has_grown a b ≡ true
failed_one e m (outcome.Opened n) a b is h f = let k : list_any is_failed ((e, Tagged Done) ∷ []) ≡ true = subst (λ x. list_any is_failed ((e, x) ∷ []) ≡ true) is f in cc
failed_one e m outcome.Done a b is h f = let k : list_any is_failed ((e, Tagged Done) ∷ []) ≡ true = subst (λ x. list_any is_failed ((e, x) ∷ []) ≡ true) is f in cc
failed_one e m outcome.Failed a b is h f = h
failed_one e m outcome.NoMemory a b is h f = let k : list_any is_failed ((e, Tagged NoMemory) ∷ []) ≡ true = subst (λ x. list_any is_failed ((e, x) ∷ []) ≡ true) is f in cc
failed_one e m (outcome.Ignored r) a b is h f = let k : list_any is_failed ((e, Ignored) ∷ []) ≡ true = subst (λ x. list_any is_failed ((e, x) ∷ []) ≡ true) is f in cc
failed_one e m (outcome.Answered x) a b is h f = let k : list_any is_failed ((e, Tagged Done) ∷ []) ≡ true = subst (λ y. list_any is_failed ((e, y) ∷ []) ≡ true) is f in cc

module _ {V : Type 0} (vault : Ghosts V) where
  pub given_none : (o : Office V) → WasGiven vault o o []
  given_none o = record {
    clean = λ k. k;
    stands = λ B L s k. s;
    admitted = λ B L s k. tt;
    counted = omega arith;
    failed = λ B L s k e. cc;
    outlasts =
        outlasts_none vault.holds vault.is_clean vault.is_up vault.may_leave o;
  }

  pub given_then : (o o1 o2 : Office V) (g1 g2 : Log) → WasGiven vault o o1 g1
      → WasGiven vault o1 o2 g2 → WasGiven vault o o2 (g2 ++ g1)
  given_then o o1 o2 g1 g2 a b = record {
    clean = λ k. a.clean (b.clean k);
    stands = λ B L s k. subst (λ l. StandsFor vault.holds o2 (trace_of B l)) (sym (append_assoc g2 g1 L)) (b.stands B (g1 ++ L) (a.stands B L s (b.clean k)) k);
    admitted = λ B L s k. newly_then B L g1 g2 (a.admitted B L s (b.clean k)) (b.admitted B (g1 ++ L) (a.stands B L s (b.clean k)) k);
    counted = (let p = a.counted in let q = b.counted in omega (arith, p, q));
    failed = λ B L s k e.
        ⊎_elim
        (λ (later : list_any is_failed g2 ≡ true).
        grown_more (vault.faults (vault_of o)) (vault.faults (vault_of o1)) (vault.faults (vault_of o2)) (vault.faults (vault_of o2)) a.counted
        (omega arith) (b.failed B (g1 ++ L) (a.stands B L s (b.clean k)) k later))
        (λ (first : list_any is_failed g1 ≡ true).
        grown_more (vault.faults (vault_of o)) (vault.faults (vault_of o)) (vault.faults (vault_of o1)) (vault.faults (vault_of o2)) (omega arith) b.counted (a.failed B L s (b.clean k) first))
        (or_cases (list_any is_failed g2) (list_any is_failed g1) (sym (list_any-append is_failed g2 g1) ∙ e));
    outlasts = outlasts_then vault.holds vault.is_clean vault.is_up vault.may_leave o o1 o2 g1 g2 b.clean a.stands a.outlasts b.outlasts;
  }

  -- one event
  pub given_one : (o o1 : Office V) (e : Event) (out : Outcome) → (vault.is_clean (vault_of o1) → vault.is_clean (vault_of o))
      → ((T : Trace) → StandsFor vault.holds o T → vault.is_clean (vault_of o1) → StandsFor vault.holds o1 (trace_of T.base ((e, event_tag_of out) ∷ T.log)))
      → ((T : Trace) → StandsFor vault.holds o T → vault.is_clean (vault_of o1) → IsAdmitted T e (event_tag_of out))
      → vault.faults (vault_of o) ≤ vault.faults (vault_of o1)
      → ((T : Trace) → StandsFor vault.holds o T → vault.is_clean (vault_of o1) → HasItsCause (vault.faults (vault_of o)) (vault.faults (vault_of o1)) out)
      → ((T : Trace) → StandsFor vault.holds o T → vault.is_clean (vault_of o1) → StaysUpUnless (vault.is_up (vault_of o)) (vault.is_up (vault_of o1)) out)
      → ((T : Trace) → StandsFor vault.holds o T → vault.is_clean (vault_of o1) → vault.is_up (vault_of o) → StopLeaves (vault.may_leave (vault_of o1)) T e out)
      → WasGiven vault o o1 ((e, event_tag_of out) ∷ [])
  given_one o o1 e out clean stands admitted counted cause up stop = record {
    clean = clean;
    stands = λ B L s k. stands (trace_of B L) s k;
    admitted = λ B L s k. (admitted (trace_of B L) s k, tt);
    counted = counted;
    failed = λ B L s k f. failed_one e (event_tag_of out) out (vault.faults (vault_of o)) (vault.faults (vault_of o1)) refl (cause (trace_of B L) s k) f;
    outlasts = outlasts_one vault.holds vault.is_clean vault.is_up vault.may_leave o o1 e out up stop;
  }

module _ {W : Type 0} (Asked : W → List Call → Type 0) where
  pub asked_none : (w : W) → WasAsked Asked w w []
  asked_none w = record { is = λ before k. subst (Asked w) (sym (append-nil before)) k }

  pub asked_one : (w w1 : W) (call : Call) → ((before : List Call) → Asked w before → Asked w1 (before ++ call ∷ [])) → WasAsked Asked w w1 (call ∷ [])
  asked_one w w1 call is = record { is = is }

  pub asked_then : (w w1 w2 : W) (c1 c2 : List Call) → WasAsked Asked w w1 c1 → WasAsked Asked w1 w2 c2 → WasAsked Asked w w2 (c1 ++ c2)
  asked_then w w1 w2 c1 c2 a b = record { is = λ before k. subst (Asked w2) (append_assoc before c1 c2) (b.is (before ++ c1) (a.is before k)) }

  pub asking_then : (w w1 w2 : W) (F G H : List Call → Type 0) → ((c1 c2 : List Call) → F c1 → G c2 → H (c1 ++ c2))
      → Asking Asked w w1 F → Asking Asked w1 w2 G → Asking Asked w w2 H
  asking_then w w1 w2 F G H join a b = record {
    calls = a.calls ++ b.calls;
    was_asked = asked_then w w1 w2 a.calls b.calls a.was_asked b.was_asked;
    facts = join a.calls b.calls a.facts b.facts;
  }

module _ {V W : Type 0} (vault : Ghosts V) (Asked : W → List Call → Type 0) where
  pub part_then : (o o1 o2 : Office V) (w w1 w2 : W) (F G H : Log → List Call → Type 0)
      → ((g1 g2 : Log) (c1 c2 : List Call) → WasGiven vault o o1 g1 → WasGiven vault o1 o2 g2 → F g1 c1 → G g2 c2 → H (g2 ++ g1) (c1 ++ c2))
      → Part vault Asked o w o1 w1 F → Part vault Asked o1 w1 o2 w2 G → Part vault Asked o w o2 w2 H
  part_then o o1 o2 w w1 w2 F G H join a b = record {
    given = b.given ++ a.given;
    calls = a.calls ++ b.calls;
    was_given = given_then vault o o1 o2 a.given b.given a.was_given b.was_given;
    was_asked = asked_then Asked w w1 w2 a.calls b.calls a.was_asked b.was_asked;
    facts = join a.given b.given a.calls b.calls a.was_given b.was_given a.facts b.facts;
  }

  -- the same part, of which something else holds
  pub part_so : (o o1 : Office V) (w w1 : W) (F G : Log → List Call → Type 0) → ((g : Log) (c : List Call) → WasGiven vault o o1 g → F g c → G g c)
      → Part vault Asked o w o1 w1 F → Part vault Asked o w o1 w1 G
  part_so o o1 w w1 F G so a = record { given = a.given; calls = a.calls; was_given = a.was_given; was_asked = a.was_asked; facts = so a.given a.calls a.was_given a.facts }

  -- nothing was done
  pub part_none : (o : Office V) (w : W) (F : Log → List Call → Type 0) → F [] [] → Part vault Asked o w o w F
  part_none o w F f = record { given = []; calls = []; was_given = given_none vault o; was_asked = asked_none Asked w; facts = f }

  -- a part that asks the wire alone, or gives events to the office alone
  pub part_asking : (o : Office V) (w w1 : W) (F : List Call → Type 0) → Asking Asked w w1 F → Part vault Asked o w o w1 (λ given calls. (given ≡ []) × F calls)
  part_asking o w w1 F a = record { given = []; calls = a.calls; was_given = given_none vault o; was_asked = a.was_asked; facts = (refl, a.facts) }

  pub part_giving : (o o1 : Office V) (w : W) (F : Log → Type 0) → Giving vault o o1 F
      → Part vault Asked o w o1 w (λ given calls. (calls ≡ []) × F given)
  part_giving o o1 w F a = record { given = a.given; calls = []; was_given = a.was_given; was_asked = asked_none Asked w; facts = (refl, a.facts) }

-- ---- what is seen of calls and events, one after the other

pub none_joined : {A C : Type 0} (h : A → Option C) (xs ys : List A) → filter_map h xs ≡ [] → filter_map h ys ≡ [] → filter_map h (xs ++ ys) ≡ []
none_joined h xs ys a b = filter_map-append h xs ys ∙ (ap (λ zs. zs ++ filter_map h ys) a ∙ b)

pub count_joined : {A : Type 0} (p : A → Bool) (xs ys : List A) → length (filter p (xs ++ ys)) ≡ length (filter p xs) + length (filter p ys)
count_joined p xs ys = ap length (filter-append p xs ys) ∙ length-append (filter p xs) (filter p ys)

none_counted : {A : Type 0} (p : A → Bool) (xs ys : List A) → length (filter p xs) ≡ 0 → length (filter p ys) ≡ 0 → length (filter p (xs ++ ys)) ≡ 0
none_counted p xs ys a b = let e = count_joined p xs ys in omega (arith, e, a, b)

pub any_left : {A : Type 0} (p : A → Bool) (xs ys : List A) → list_any p xs ≡ true → list_any p (xs ++ ys) ≡ true
any_left p xs ys h = list_any-append p xs ys ∙ ap (λ b. b || list_any p ys) h

pub any_right : {A : Type 0} (p : A → Bool) (xs ys : List A) → list_any p ys ≡ true → list_any p (xs ++ ys) ≡ true
any_right p xs ys h = list_any-append p xs ys ∙ (ap (λ b. list_any p xs || b) h ∙ or_true (list_any p xs))

pub quiet_then : (g1 g2 : Log) (c1 c2 : List Call) → IsQuiet g1 c1 → IsQuiet g2 c2 → IsQuiet (g2 ++ g1) (c1 ++ c2)
quiet_then g1 g2 c1 c2 a b = record {
  no_moments = none_joined _ g2 g1 b.no_moments a.no_moments;
  no_openings = none_counted _ g2 g1 b.no_openings a.no_openings;
  no_refusals = none_counted _ g2 g1 b.no_refusals a.no_refusals;
  no_waits = none_joined _ c1 c2 a.no_waits b.no_waits;
  no_arrivals = none_joined _ c1 c2 a.no_arrivals b.no_arrivals;
  no_closings = none_joined _ c1 c2 a.no_closings b.no_closings;
}

pub quiet_none : IsQuiet [] []
quiet_none = record { no_moments = refl; no_openings = refl; no_refusals = refl; no_waits = refl; no_arrivals = refl; no_closings = refl }

-- ---- causes

-- more calls and more seats are causes too
pub cause_more : (seats more : List Seat) (calls calls_then : List Call) → ((s : Seat) → Contains seats s → Contains more s) → ((l : Link) → is_cut l calls ≡ true → is_cut l calls_then ≡ true)
    → (x : Event × EventTag) → HasCause seats calls x → HasCause more calls_then x
cause_more seats more calls calls_then has cut (event.Start host boot idle, m) h = h
cause_more seats more calls calls_then has cut (event.Connect, m) h = tt
cause_more seats more calls calls_then has cut (event.Bytes c piece, m) h = tt
cause_more seats more calls calls_then has cut (event.Took c n, m) h = tt
cause_more seats more calls calls_then has cut (event.Gone c, m) (s, at, is, k) = (s, has s at, is, cut s.link k)
cause_more seats more calls calls_then has cut (event.Tick now, m) h = tt
cause_more seats more calls calls_then has cut (event.Deposit d class id text, m) h = tt
cause_more seats more calls calls_then has cut (event.Admin command, m) h = tt
cause_more seats more calls calls_then has cut (event.Restart boot, m) h = h

pub caused_more : (seats more : List Seat) (calls calls_then : List Call) (given : Log) → ((s : Seat) → Contains seats s → Contains more s)
    → ((l : Link) → is_cut l calls ≡ true → is_cut l calls_then ≡ true)
    → AreCaused seats calls given → AreCaused more calls_then given
caused_more seats more calls calls_then given has cut a = All-weaker (HasCause seats calls) (HasCause more calls_then) (cause_more seats more calls calls_then has cut) given a

pub caused_then : (seats : List Seat) (g1 g2 : Log) (c1 c2 : List Call) → AreCaused seats c1 g1 → AreCaused seats c2 g2 → AreCaused seats (c1 ++ c2) (g2 ++ g1)
caused_then seats g1 g2 c1 c2 a b =
    All-append (HasCause seats (c1 ++ c2)) g2 g1
    (caused_more seats seats c2 (c1 ++ c2) g2 (λ s h. h) (λ l h. any_right (is_cut_of l) c1 c2 h) b)
    (caused_more seats seats c1 (c1 ++ c2) g1 (λ s h. h) (λ l h. any_left (is_cut_of l) c1 c2 h) a)

pub none_of : {A : Type 0} (p : A → Bool) (xs ys : List A) → list_any p xs ≡ false → list_any p ys ≡ false → list_any p (xs ++ ys) ≡ false
none_of p xs ys a b = list_any-append p xs ys ∙ (ap (λ u. u || list_any p ys) a ∙ b)

pub of_then : (seats : List Seat) (g1 g2 : Log) (c1 c2 : List Call) → IsQuietFor seats g1 c1 → IsQuietFor seats g2 c2 → IsQuietFor seats (g2 ++ g1) (c1 ++ c2)
of_then seats g1 g2 c1 c2 a b = record { quiet = quiet_then g1 g2 c1 c2 a.quiet b.quiet; apart = none_of is_admin c1 c2 a.apart b.apart; caused = caused_then seats g1 g2 c1 c2 a.caused b.caused }

pub of_more : (seats more : List Seat) (given : Log) (calls : List Call) → ((s : Seat) → Contains seats s → Contains more s) → IsQuietFor seats given calls → IsQuietFor more given calls
of_more seats more given calls has a = record { quiet = a.quiet; apart = a.apart; caused = caused_more seats more calls calls given has (λ l h. h) a.caused }

pub of_none : (seats : List Seat) → IsQuietFor seats [] []
of_none seats = record { quiet = quiet_none; apart = refl; caused = All-nil (HasCause seats []) }

-- ---- turns

pub taken_joined : (link : Link) (c1 c2 : List Call) → octets_taken link (c1 ++ c2) ≡ octets_taken link c1 + octets_taken link c2
taken_joined link [] c2 = let e : 0 + octets_taken link c2 ≡ octets_taken link c2 = omega arith in sym e
taken_joined link (x ∷ c1) c2 = let e = taken_joined link c1 c2 in omega (arith, e)

pub turn_read : (share : ℕ) (poll_now : Bool) (link : Link) (calls : List Call) → list_any (is_read_of link) calls ≡ true → had_its_turn share poll_now link calls ≡ true
turn_read share poll_now link calls h = rw h refl

pub turn_later : (share : ℕ) (poll_now : Bool) (link : Link) (calls : List Call) → list_any (is_later_of link) calls ≡ true → had_its_turn share poll_now link calls ≡ true
turn_later share poll_now link calls h =
    let r = list_any (is_read_of link) calls in
    let x = poll_now && is_written_out share link calls in
    ap (λ b. (r || b) || x) h ∙ ap (λ b. b || x) (or_true r)

turn_out : (share : ℕ) (poll_now : Bool) (link : Link) (calls : List Call) → poll_now ≡ true → is_written_out share link calls ≡ true → had_its_turn share poll_now link calls ≡ true
turn_out share poll_now link calls e h =
    let x = list_any (is_read_of link) calls || list_any (is_later_of link) calls in
    ap (λ b. x || (b && is_written_out share link calls)) e ∙ (ap (λ b. x || b) h ∙ or_true x)

pub turn_full : (share : ℕ) (poll_now : Bool) (link : Link) (calls : List Call) → poll_now ≡ true
    → most_writes ≤ length (filter (is_taking_of link) calls) → had_its_turn share poll_now link calls ≡ true
turn_full share poll_now link calls e h =
    let k = le-leb most_writes (length (filter (is_taking_of link) calls)) h in
    let s = nat_le share (octets_taken link calls) in
    turn_out share poll_now link calls e (ap (λ b. b || s) k)

pub turn_shared : (share : ℕ) (poll_now : Bool) (link : Link) (calls : List Call) → poll_now ≡ true → share ≤ octets_taken link calls → had_its_turn share poll_now link calls ≡ true
turn_shared share poll_now link calls e h =
    let k = le-leb share (octets_taken link calls) h in
    let n = nat_le most_writes (length (filter (is_taking_of link) calls)) in
    turn_out share poll_now link calls e (ap (λ b. n || b) k ∙ or_true n)

both_first : (a b : Bool) → (a && b) ≡ true → a ≡ true
both_first true b e = refl
both_first false b e = cc

both_second : (a b : Bool) → (a && b) ≡ true → b ≡ true
both_second true b e = e
both_second false b e = cc

turn_joined : (share : ℕ) (poll_now poll_now2 : Bool) (link : Link) (c c' : List Call) → (poll_now ≡ true → poll_now2 ≡ true)
    → (list_any (is_read_of link) c ≡ true → list_any (is_read_of link) c' ≡ true)
    → (list_any (is_later_of link) c ≡ true → list_any (is_later_of link) c' ≡ true)
    → length (filter (is_taking_of link) c) ≤ length (filter (is_taking_of link) c') → octets_taken link c ≤ octets_taken link c'
    → had_its_turn share poll_now link c ≡ true → had_its_turn share poll_now2 link c' ≡ true
turn_joined share poll_now poll_now2 link c c' still read later full taken h =
    let r = list_any (is_read_of link) c in
    let l = list_any (is_later_of link) c in
    let n = nat_le most_writes (length (filter (is_taking_of link) c)) in
    let s = nat_le share (octets_taken link c) in
    ⊎_elim
    (λ (k : (r || l) ≡ true).
    ⊎_elim
    (λ (a : r ≡ true). turn_read share poll_now2 link c' (read a))
    (λ (b : l ≡ true). turn_later share poll_now2 link c' (later b))
    (or_cases r l k))
    (λ (k : (poll_now && (n || s)) ≡ true).
    (let e : poll_now2 ≡ true = still (both_first poll_now (n || s) k) in
    ⊎_elim
    (λ (k2 : n ≡ true).
    (let m : most_writes ≤ length (filter (is_taking_of link) c) = leb-true most_writes (length (filter (is_taking_of link) c)) k2 in
    turn_full share poll_now2 link c' e (omega (arith, m, full))))
    (λ (k2 : s ≡ true).
    (let m : share ≤ octets_taken link c = leb-true share (octets_taken link c) k2 in
    turn_shared share poll_now2 link c' e (omega (arith, m, taken))))
    (or_cases n s (both_second poll_now (n || s) k))))
    (or_cases (r || l) (poll_now && (n || s)) h)

pub turn_left : (share : ℕ) (poll_now : Bool) (link : Link) (c1 c2 : List Call) → had_its_turn share poll_now link c1 ≡ true → had_its_turn share poll_now link (c1 ++ c2) ≡ true
turn_left share poll_now link c1 c2 h =
    let e = count_joined (is_taking_of link) c1 c2 in
    let t = taken_joined link c1 c2 in
    turn_joined share poll_now poll_now link c1 (c1 ++ c2) (λ k. k) (any_left (is_read_of link) c1 c2) (any_left (is_later_of link) c1 c2) (omega (arith, e)) (omega (arith, t)) h

pub turn_right : (share : ℕ) (poll_now : Bool) (link : Link) (c1 c2 : List Call) → had_its_turn share poll_now link c2 ≡ true → had_its_turn share poll_now link (c1 ++ c2) ≡ true
turn_right share poll_now link c1 c2 h =
    let e = count_joined (is_taking_of link) c1 c2 in
    let t = taken_joined link c1 c2 in
    turn_joined share poll_now poll_now link c2 (c1 ++ c2) (λ k. k) (any_right (is_read_of link) c1 c2) (any_right (is_later_of link) c1 c2) (omega (arith, e)) (omega (arith, t)) h

-- the next turn doesn't wait for another cause
pub turn_polled : (share : ℕ) (poll_now poll_now2 : Bool) (link : Link) (c : List Call) → (poll_now ≡ true → poll_now2 ≡ true)
    → had_its_turn share poll_now link c ≡ true → had_its_turn share poll_now2 link c ≡ true
turn_polled share poll_now poll_now2 link c still h = turn_joined share poll_now poll_now2 link c c still (λ k. k) (λ k. k) (omega arith) (omega arith) h

-- ---- links that stay unread

module _ (B : Records) (L : Log) (wait : ℕ) (may : Bool) (s : Seat) where
  pub unread_left : (g1 g2 : Log) (c1 c2 : List Call) → StaysUnread B L g1 c1 wait may s → StaysUnread B L (g2 ++ g1) (c1 ++ c2) wait may s
  unread_left g1 g2 c1 c2 u = record {
    piece = u.piece;
    io = u.io;
    shown = Contains-append_left c1 c2 (Looked Pop s.link u.io u.piece) u.shown;
    later = g2 ++ u.later;
    front = u.front;
    is = ap (λ g. g2 ++ g) u.is ∙ sym (append_assoc g2 u.later u.front);
    kept = u.kept;
  }

  pub unread_right : (g1 g2 : Log) (c1 c2 : List Call) → StaysUnread B (g1 ++ L) g2 c2 wait may s → StaysUnread B L (g2 ++ g1) (c1 ++ c2) wait may s
  unread_right g1 g2 c1 c2 u = record {
    piece = u.piece;
    io = u.io;
    shown = Contains-append_right c1 c2 (Looked Pop s.link u.io u.piece) u.shown;
    later = u.later;
    front = u.front ++ g1;
    is = ap (λ g. g ++ g1) u.is ∙ append_assoc u.later u.front g1;
    kept = subst (λ l. IsKeptBack (trace_of B l) s.connection u.piece wait may) (sym (append_assoc u.front g1 L)) u.kept;
  }

pub lies_left : (B : Records) (L : Log) (wait : ℕ) (may : Bool) (seats : List Seat) (c : ℕ) (g1 g2 : Log) (c1 c2 : List Call)
    → LiesUnread B L g1 c1 wait may seats c → LiesUnread B L (g2 ++ g1) (c1 ++ c2) wait may seats c
lies_left B L wait may seats c g1 g2 c1 c2 u = record { seat = u.seat; among = u.among; is = u.is; unread = unread_left B L wait may u.seat g1 g2 c1 c2 u.unread }

pub lies_right : (B : Records) (L : Log) (wait : ℕ) (may : Bool) (seats : List Seat) (c : ℕ) (g1 g2 : Log) (c1 c2 : List Call)
    → LiesUnread B (g1 ++ L) g2 c2 wait may seats c → LiesUnread B L (g2 ++ g1) (c1 ++ c2) wait may seats c
lies_right B L wait may seats c g1 g2 c1 c2 u = record { seat = u.seat; among = u.among; is = u.is; unread = unread_right B L wait may u.seat g1 g2 c1 c2 u.unread }

-- ---- links that are read by lines

line_left : (may : Bool) (s : Seat) (c1 c2 : List Call) → IsReadByLine c1 may s → IsReadByLine (c1 ++ c2) may s
line_left may s c1 c2 u = record {
  piece = u.piece;
  io = u.io;
  io_then = u.io_then;
  octets = u.octets;
  held = u.held;
  shown = Contains-append_left c1 c2 (Looked Pop s.link u.io u.piece) u.shown;
  read = Contains-append_left c1 c2 (Read Pop s.link (first_line u.piece) u.io_then u.octets) u.read;
}

pub line_right : (may : Bool) (s : Seat) (c1 c2 : List Call) → IsReadByLine c2 may s → IsReadByLine (c1 ++ c2) may s
line_right may s c1 c2 u = record {
  piece = u.piece;
  io = u.io;
  io_then = u.io_then;
  octets = u.octets;
  held = u.held;
  shown = Contains-append_right c1 c2 (Looked Pop s.link u.io u.piece) u.shown;
  read = Contains-append_right c1 c2 (Read Pop s.link (first_line u.piece) u.io_then u.octets) u.read;
}

-- ---- links that stay unread for a QUIT

module _ (B : Records) (L : Log) (s : Seat) where
  pub awaits_left : (g1 g2 : Log) (c1 c2 : List Call) → AwaitsQuit B L g1 c1 s → AwaitsQuit B L (g2 ++ g1) (c1 ++ c2) s
  awaits_left g1 g2 c1 c2 u = record {
    later = g2 ++ u.later;
    own = u.own;
    front = u.front;
    given_are = ap (λ g. g2 ++ g) u.given_are ∙ sym (append_assoc g2 u.later (u.own ++ u.front));
    before = u.before;
    here = u.here;
    after = u.after ++ c2;
    calls_are = ap (λ c. c ++ c2) u.calls_are ∙ (append_assoc u.before (u.here ++ u.after) c2 ∙ ap (λ c. u.before ++ c) (append_assoc u.here u.after c2));
    unread = u.unread;
    piece = u.piece;
    io = u.io;
    shown = u.shown;
    brings = u.brings;
  }

  pub awaits_right : (g1 g2 : Log) (c1 c2 : List Call) → AwaitsQuit B (g1 ++ L) g2 c2 s → AwaitsQuit B L (g2 ++ g1) (c1 ++ c2) s
  awaits_right g1 g2 c1 c2 u = record {
    later = u.later;
    own = u.own;
    front = u.front ++ g1;
    given_are = ap (λ g. g ++ g1) u.given_are ∙ (append_assoc u.later (u.own ++ u.front) g1 ∙ ap (λ g. u.later ++ g) (append_assoc u.own u.front g1));
    before = c1 ++ u.before;
    here = u.here;
    after = u.after;
    calls_are = ap (λ c. c1 ++ c) u.calls_are ∙ sym (append_assoc c1 u.before (u.here ++ u.after));
    unread = u.unread;
    piece = u.piece;
    io = u.io;
    shown = u.shown;
    brings = subst (λ l. brings_long_quit (trace_of B (u.own ++ l)) s.connection u.piece ≡ true) (sym (append_assoc u.front g1 L)) u.brings;
  }

-- a link had its turn, or stays unread for a cause
abbrev pub Turned : Way → (B : Records) (L g : Log) → List Call → Seat → Type 0
Turned way B L g c s = (had_its_turn way.share way.poll_now s.link c ≡ true)
    ⊎ (IsHeldBack B L g c way.wait way.by_line (way.may s.connection) s ⊎ ((way.is_preparing ≡ true) × AwaitsQuit B L g c s))

-- in a turn that goes on
pub turned_left : (way : Way) (B : Records) (L g1 g2 : Log) (c1 c2 : List Call) (s : Seat)
    → Turned way B L g1 c1 s → Turned way B L (g2 ++ g1) (c1 ++ c2) s
turned_left way B L g1 g2 c1 c2 s (inl t) = inl (turn_left way.share way.poll_now s.link c1 c2 t)
turned_left way B L g1 g2 c1 c2 s (inr (inl (inl u))) = inr (inl (inl (line_left way.by_line s c1 c2 u)))
turned_left way B L g1 g2 c1 c2 s (inr (inl (inr u))) = inr (inl (inr (unread_left B L way.wait (way.may s.connection) s g1 g2 c1 c2 u)))
turned_left way B L g1 g2 c1 c2 s (inr (inr (e, u))) = inr (inr (e, awaits_left B L s g1 g2 c1 c2 u))

pub turned_right : (way : Way) (B : Records) (L g1 g2 : Log) (c1 c2 : List Call) (s : Seat)
    → Turned way B (g1 ++ L) g2 c2 s → Turned way B L (g2 ++ g1) (c1 ++ c2) s
turned_right way B L g1 g2 c1 c2 s (inl t) = inl (turn_right way.share way.poll_now s.link c1 c2 t)
turned_right way B L g1 g2 c1 c2 s (inr (inl (inl u))) = inr (inl (inl (line_right way.by_line s c1 c2 u)))
turned_right way B L g1 g2 c1 c2 s (inr (inl (inr u))) = inr (inl (inr (unread_right B L way.wait (way.may s.connection) s g1 g2 c1 c2 u)))
turned_right way B L g1 g2 c1 c2 s (inr (inr (e, u))) = inr (inr (e, awaits_right B L s g1 g2 c1 c2 u))

-- ---- what is open

not_ignored : (r : Reason) (s o : Outcome) (t : Tag) → o ≡ or_ignored (Some r) s → Tagged t ≡ event_tag_of o → ⊥
not_ignored r s o t is e = let k : Tagged t ≡ Ignored = e ∙ ap event_tag_of is in cc

-- what isn't ignored for want of a connection has an open one
open_else : (b : Bool) (more : Option Reason) (s o : Outcome) (t : Tag) → o ≡ or_ignored (if not b then Some NoSuchConnection else more) s → Tagged t ≡ event_tag_of o → b ≡ true
open_else true more s o t is e = refl
open_else false more s o t is e = absurd (not_ignored NoSuchConnection s o t is e)

open_gone : (b : Bool) (s o : Outcome) (t : Tag) → o ≡ or_ignored (reason_if (not b) NoSuchConnection) s → Tagged t ≡ event_tag_of o → b ≡ true
open_gone true s o t is e = refl
open_gone false s o t is e = absurd (not_ignored NoSuchConnection s o t is e)

module _ (B : Records) (L : Log) where
  pub fewer_gone_one : (c : ℕ) (m : EventTag) → IsAdmitted (trace_of B L) (event.Gone c) m → Fewer B L ((event.Gone c, m) ∷ L)
  fewer_gone_one c Ignored a = λ d o. o
  fewer_gone_one c (Tagged t) a =
      fewer_framed B L c ((event.Gone c, Tagged t) ∷ L) (open_gone (is_open (trace_of B L) c) _ a.outcome t a.is.is a.event_tag) (frame_gone B L c t)

  -- an event that isn't an opening opens nothing
  fewer_one : (e : Event) (m : EventTag) (seats : List Seat) (calls : List Call) → IsAdmitted (trace_of B L) e m → HasCause seats calls (e, m) → is_opening (e, m) ≡ false → Fewer B L ((e, m) ∷ L)
  fewer_one (event.Start host boot idle) m seats calls a h n = absurd h
  fewer_one event.Connect m seats calls a h n = cc
  fewer_one (event.Bytes c piece) Ignored seats calls a h n = λ d o. o
  fewer_one (event.Bytes c piece) (Tagged t) seats calls a h n =
      fewer_framed B L c ((event.Bytes c piece, Tagged t) ∷ L) (open_else (is_open (trace_of B L) c) _ _ a.outcome t a.is.is a.event_tag) (frame_read B L c piece t)
  fewer_one (event.Took c k) Ignored seats calls a h n = λ d o. o
  fewer_one (event.Took c k) (Tagged t) seats calls a h n =
      fewer_framed B L c ((event.Took c k, Tagged t) ∷ L) (open_else (is_open (trace_of B L) c) _ _ a.outcome t a.is.is a.event_tag) (frame_took B L c k t)
  fewer_one (event.Gone c) m seats calls a h n = fewer_gone_one c m a
  fewer_one (event.Tick now) m seats calls a h n = fewer_tick B L now m
  fewer_one (event.Deposit d class id text) Ignored seats calls a h n = λ c o. o
  fewer_one (event.Deposit d class id text) (Tagged t) seats calls a h n = λ c o. sym (deposit_same B L d class id text t c) ∙ o
  fewer_one (event.Admin command) m seats calls a h n = fewer_command B L command m
  fewer_one (event.Restart boot) m seats calls a h n = absurd h

  no_first : (x : Event × EventTag) (given : Log) → openings (x ∷ given) ≡ 0 → (is_opening x ≡ false) × (openings given ≡ 0)
  no_first (event.Start host boot idle, m) given e = (refl, e)
  no_first (event.Connect, m) given e = cc
  no_first (event.Bytes c piece, m) given e = (refl, e)
  no_first (event.Took c n, m) given e = (refl, e)
  no_first (event.Gone c, m) given e = (refl, e)
  no_first (event.Tick now, m) given e = (refl, e)
  no_first (event.Deposit d class id text, m) given e = (refl, e)
  no_first (event.Admin command, m) given e = (refl, e)
  no_first (event.Restart boot, m) given e = (refl, e)

-- connections went, and nothing else was done
pub fewer_gone : (B : Records) (L given : Log) (now seconds : ℕ) (newcomers : List Newcomer) → AreNewlyAdmitted B L given → AreLateGone now seconds newcomers given → Fewer B L (given ++ L)
fewer_gone B L [] now seconds newcomers a h = λ d o. o
fewer_gone B L ((event.Gone c, m) ∷ given) now seconds newcomers a h = λ d o.
    fewer_gone B L given now seconds newcomers a.1 (All-tail (IsLateGone now seconds newcomers) (event.Gone c, m) given h) d
    (fewer_gone_one B (given ++ L) c m a.0 d o)
fewer_gone B L ((event.Start host boot idle, m) ∷ given) now seconds newcomers a h = absurd (All-head (IsLateGone now seconds newcomers) (event.Start host boot idle, m) given h)
fewer_gone B L ((event.Connect, m) ∷ given) now seconds newcomers a h = absurd (All-head (IsLateGone now seconds newcomers) (event.Connect, m) given h)
fewer_gone B L ((event.Bytes c piece, m) ∷ given) now seconds newcomers a h = absurd (All-head (IsLateGone now seconds newcomers) (event.Bytes c piece, m) given h)
fewer_gone B L ((event.Took c n, m) ∷ given) now seconds newcomers a h = absurd (All-head (IsLateGone now seconds newcomers) (event.Took c n, m) given h)
fewer_gone B L ((event.Tick moment, m) ∷ given) now seconds newcomers a h = absurd (All-head (IsLateGone now seconds newcomers) (event.Tick moment, m) given h)
fewer_gone B L ((event.Deposit d class id text, m) ∷ given) now seconds newcomers a h = absurd (All-head (IsLateGone now seconds newcomers) (event.Deposit d class id text, m) given h)
fewer_gone B L ((event.Admin command, m) ∷ given) now seconds newcomers a h = absurd (All-head (IsLateGone now seconds newcomers) (event.Admin command, m) given h)
fewer_gone B L ((event.Restart boot, m) ∷ given) now seconds newcomers a h = absurd (All-head (IsLateGone now seconds newcomers) (event.Restart boot, m) given h)

pub fewer_quiet : (B : Records) (L given : Log) (seats : List Seat) (calls : List Call) → AreNewlyAdmitted B L given → AreCaused seats calls given → openings given ≡ 0 → Fewer B L (given ++ L)
fewer_quiet B L [] seats calls a h n = λ d o. o
fewer_quiet B L ((e, m) ∷ given) seats calls a h n = λ d o.
    (let k = no_first B L (e, m) given n in
    fewer_quiet B L given seats calls a.1 (All-tail (HasCause seats calls) (e, m) given h) k.1 d
    (fewer_one B (given ++ L) e m seats calls a.0 (All-head (HasCause seats calls) (e, m) given h) k.0 d o))

-- the links of these seats had their turns before, and other parts follow
pub turns_later : (way : Way) (B : Records) (L given more : Log) (c1 c2 : List Call) (seats : List Seat) → Fewer B (given ++ L) (more ++ (given ++ L))
    → All (HadTurn way B L given (trace_of B (given ++ L)) c1) seats → All (HadTurn way B L (more ++ given) (trace_of B ((more ++ given) ++ L)) (c1 ++ c2)) seats
turns_later way B L given more c1 c2 seats fewer a =
    subst (λ l. All (HadTurn way B L (more ++ given) (trace_of B l) (c1 ++ c2)) seats) (sym (append_assoc more given L))
    (All-weaker (HadTurn way B L given (trace_of B (given ++ L)) c1) (HadTurn way B L (more ++ given) (trace_of B (more ++ (given ++ L))) (c1 ++ c2))
    (λ s h o. turned_left way B L given more c1 c2 s (h (fewer s.connection o))) seats a)

-- nothing is owed to a connection that doesn't wait for octets: it isn't open
pub shut_by : (b : Bool) (u : List ℕ) → rest_if b u ≡ [] → (b && is_empty (rest_if b u)) ≡ false → b ≡ true → ⊥
shut_by true u e n o = let k : is_empty (rest_if true u) ≡ true = ap is_empty e in true≢false (sym k ∙ n)
shut_by false u e n o = cc

-- nothing is owed if nothing is lent
pub nothing_left : (owed : List ℕ) (n : ℕ) (empty : Bool) → n ≡ min (length owed) 16384 → empty ≡ (n == 0) → empty ≡ true → owed ≡ []
nothing_left [] n empty exact is e = refl
nothing_left (x ∷ owed) n empty exact is e = let z : n ≡ 0 = eqb-true n 0 (sym is ∙ e) in absurd (omega (arith, exact, z))
