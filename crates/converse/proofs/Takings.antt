-- What it says of a conversation that octets of what is owed were taken.
use Rattle.std.proofs.Common.{◌≡◌, ℕ, zero, suc, ◌+◌, ◌<◌, ◌≤◌, Bool, true, false, not, ◌&&◌, ◌||◌, List, [], ◌∷◌, ◌++◌, length, take, drop, refl, sym, ◌∙◌, ap, arith, slice_get}
use Rattle.std.proofs.Common.{Some, None, Option, ◌==◌, length-append, append-nil, subst, eq-eqb, ne_eqb, eqb, nat_lt, ltb-true, ltb-false, le-ltb, ◌⊎◌, inl, inr, ⊎_elim, is_some}
use Rattle.std.proofs.lemmas.List.{take-take, length-take, length-take-le}
use Rattle.std.specs.Bool.{if◌then◌else◌}
use Rattle.popline.specs.Cutting.{Cut, cut}
use Rattle.vault.specs.Records.{Records}
use Rattle.office.specs.History.{Act, Line, Gone, Tag, Done, Failed, NoMemory, Entry, is_no_memory}
use Rattle.office.specs.Connections.{connected, closing, acted, serving, sent}
use Rattle.office.specs.Replying.{is_empty}
use Rattle.office.specs.Told.{told}
use Rattle.office.specs.Events.{Tagged, Log}
use Rattle.office.specs.Events as event
use Rattle.office.specs.Log.{stream, taken}
use Rattle.office.specs.Trace.{acts, history, rest, rest_if, is_open, is_open_by, is_left, untaken, rest_at, next_line, act_of_part, acts_of_took, most_lent, IsLent}
use Rattle.office.specs.Expected.{IsOutcome, ignored, shown_at, reason_if, may_show, took_may, next_may_fail}
use Rattle.office.specs.Outcomes.{Outcome, NoSuchConnection, NotReady, event_tag_of}
use Rattle.office.specs.Outcomes as outcome
use Rattle.converse.specs.Talk.{may_be, AreInTurn, TalksInPart}
use Rattle.converse.specs.Talked.{trace_of}
use Rattle.converse.specs.Conversing.{Spoke, GoesOn, Breaks}
use Rattle.converse.proofs.Saying.{lines_line, spoke_line, line_owes, spoke_took}
use Rattle.converse.proofs.Events.{is_lack, Shows, shows}

-- so many octets of what is lent are taken
pub record IsTaking (B : Records) (c : ℕ) (old : List (Act × Tag)) (octets written : List ℕ) (n : ℕ) (lent : List ℕ) (L : Log) : Type 0 where
  pub on : GoesOn B c old octets written L
  pub some : 0 < n
  pub fits : n ≤ length lent
  pub is : IsLent (rest (trace_of B L) c) lent

-- nothing is lent of nothing
lent_if : (b : Bool) (u lent : List ℕ) → IsLent (rest_if b u) lent → 0 < length lent → b ≡ true
lent_if true u lent l h = refl
lent_if false u lent l h = let n = ap length l.beginning in absurd (omega (arith, n, h, length-take (length lent) (rest_if false u)))

lent_rest : (b : Bool) (u lent : List ℕ) → IsLent (rest_if b u) lent → b ≡ true → lent ≡ take (length lent) u
lent_rest true u lent l e = l.beginning
lent_rest false u lent l e = cc

none_past : {A : Type 0} (xs : List A) (n : ℕ) → slice_get xs n ≡ None → length xs ≤ n
none_past [] n e = omega arith
none_past (x ∷ xs) zero e = cc
none_past (x ∷ xs) (suc n) e = let h = none_past xs n e in omega (arith, h)

took_if : (o s : Bool) → o ≡ true → s ≡ false → (if not o then Some NoSuchConnection else reason_if s NotReady) ≡ None
took_if o s a b = rw (a, b) refl

amiss : (n l : ℕ) → 0 < n → n ≤ l → ((n == 0) || nat_lt l n) ≡ false
amiss n l a b =
    let z : eqb n 0 ≡ false = ne_eqb n 0 (λ (e : n ≡ 0). (let h : ⊥ = omega (arith, e, a) in h)) in
    let h : nat_lt l n ≡ false = le-ltb l n b in
    rw (z, h) refl

part_done : (s : Bool) (c : ℕ) → act_of_part s c Done ≡ []
part_done true c = refl
part_done false c = refl

part_lacks : (s : Bool) (c : ℕ) → act_of_part s c NoMemory ≡ (Gone c, Done) ∷ []
part_lacks true c = refl
part_lacks false c = refl

some_left : (m : ℕ) (xs : List ℕ) → m < length xs → is_empty (drop m xs) ≡ false
some_left m [] h = absurd (omega arith)
some_left zero (x ∷ xs) h = refl
some_left (suc m) (x ∷ xs) h = some_left m xs (omega arith)

open_if : (k cl e : Bool) → k ≡ true → e ≡ false → (k && not (cl && e)) ≡ true
open_if k true e a b = rw (a, b) refl
open_if k false e a b = rw a refl

pub left_open : (k cl : Bool) (m : ℕ) (xs : List ℕ) → k ≡ true → m < length xs → is_open_by k cl (drop m xs) ≡ true
left_open k cl m xs e h = open_if k cl (is_empty (drop m xs)) e (some_left m xs h)

module _ (B : Records) (c : ℕ) (old : List (Act × Tag)) (octets written : List ℕ) (L : Log) (n : ℕ) (lent : List ℕ) where
  abbrev Takes : Type 0
  Takes = IsTaking B c old octets written n lent L

  abbrev Before : List (Act × Tag)
  Before = acts (trace_of B L)

  abbrev Front : List Entry
  Front = history (trace_of B L)

  abbrev After : Tag → Log
  After t = (event.Took c n, Tagged t) ∷ L

  abbrev Written : List ℕ
  Written = written ++ take n lent

  takes_open : Takes → is_open (trace_of B L) c ≡ true
  takes_open k = let a = k.some in let b = k.fits in lent_if (is_open (trace_of B L) c) (untaken L Front c) lent k.is (omega (arith, a, b))

  lent_so : (k : Takes) → lent ≡ take (length lent) (drop (length written) (sent Front c))
  lent_so k = lent_rest (is_open (trace_of B L) c) (untaken L Front c) lent k.is (takes_open k) ∙ ap (λ m. take (length lent) (drop m (sent Front c))) k.on.took

  more_is : (k : Takes) → take n lent ≡ take n (drop (length written) (sent Front c))
  more_is k = ap (λ (xs : List ℕ). take n xs) (lent_so k) ∙ take-take n (length lent) (drop (length written) (sent Front c)) k.fits

  enough : (k : Takes) → n ≤ length (drop (length written) (sent Front c))
  enough k =
      let e = ap length (lent_so k) in
      let f = k.fits in
      omega (arith, e, f, length-take (length lent) (drop (length written) (sent Front c)))

  long : (k : Takes) → taken L c + n ≡ length Written
  long k = let t = k.on.took in let f = k.fits in omega (arith, t, length-append written (take n lent), length-take-le n lent f)

  spoke_so : (k : Takes) → Spoke B c old octets Written k.on.tags Before
  spoke_so k = subst (λ (m : List ℕ). Spoke B c old octets (written ++ m) k.on.tags Before) (sym (more_is k)) (spoke_took B c old octets written k.on.tags Before k.on.spoke n (enough k))

  took_so : (k : Takes) (t : Tag) → taken (After t) c ≡ length Written
  took_so k t = let e = eq-eqb c c refl in rw e (long k)

  next_so : (k : Takes) → next_line L Front c [] ≡ slice_get (cut octets) (length k.on.tags)
  next_so k = ap (λ s. slice_get (cut s) (acted Front c)) (append-nil (stream L c) ∙ k.on.heard) ∙ ap (λ m. slice_get (cut octets) m) k.on.spoke.count

  acts_so : (t : Tag) (a s b : Bool) (o : Option Cut) → is_left L Front c n ≡ a → serving Front c ≡ s → closing Front c ≡ b → next_line L Front c [] ≡ o
      → acts (trace_of B (After t)) ≡ acts_of_took a s b c t o ++ Before
  acts_so t a s b o p q r w =
      ap (λ x. acts_of_took x (serving Front c) (closing Front c) c t (next_line L Front c []) ++ Before) p
      ∙ (ap (λ x. acts_of_took a x (closing Front c) c t (next_line L Front c []) ++ Before) q
      ∙ (ap (λ x. acts_of_took a s x c t (next_line L Front c []) ++ Before) r
      ∙ ap (λ x. acts_of_took a s b c t x ++ Before) w))

  fails_so : (a s b : Bool) (o : Option Cut) → is_left L Front c n ≡ a → serving Front c ≡ s → closing Front c ≡ b → next_line L Front c [] ≡ o
      → may_show (trace_of B L) (event.Took c n) Failed ≡ took_may a s b (next_may_fail B Front c o)
  fails_so a s b o p q r w =
      ap (λ x. took_may x (serving Front c) (closing Front c) (next_may_fail B Front c (next_line L Front c []))) p
      ∙ (ap (λ x. took_may a x (closing Front c) (next_may_fail B Front c (next_line L Front c []))) q
      ∙ (ap (λ x. took_may a s x (next_may_fail B Front c (next_line L Front c []))) r
      ∙ ap (λ x. took_may a s b (next_may_fail B Front c x)) w))

  -- more is owed than is lent
  abbrev owes_more : Bool
  owes_more = nat_lt most_lent (length (rest_at L Front c))

  lacks_so : (a b : Bool) (o : Option Cut) → is_left L Front c n ≡ a → closing Front c ≡ b → next_line L Front c [] ≡ o
      → may_show (trace_of B L) (event.Took c n) NoMemory ≡ took_may a owes_more b (is_some o)
  lacks_so a b o p r w =
      ap (λ x. took_may x owes_more (closing Front c) (is_some (next_line L Front c []))) p
      ∙ (ap (λ x. took_may a owes_more x (is_some (next_line L Front c []))) r
      ∙ ap (λ x. took_may a owes_more b (is_some x)) w)

  -- no act comes of it
  still : (k : Takes) (t : Tag) → acts (trace_of B (After t)) ≡ Before
      → (closing Front c ≡ false → length (sent Front c) ≤ length Written → length (cut octets) ≤ length k.on.tags) → GoesOn B c old octets Written (After t)
  still k t same each =
      record {
        tags = k.on.tags;
        heard = k.on.heard;
        took = took_so k t;
        spoke = subst (λ (H : List (Act × Tag)). Spoke B c old octets Written k.on.tags H) (sym same) (spoke_so k);
        each = λ shut paid. each (subst (λ (H : List (Act × Tag)). closing (told B H) c ≡ false) same shut) (subst (λ (H : List (Act × Tag)). length (sent (told B H) c) ≤ length Written) same paid);
      }

  -- ---- something is left

  left_goes : (k : Takes) → is_left L Front c n ≡ true → GoesOn B c old octets Written (After Done)
  left_goes k left =
      still k Done
      (acts_so Done true (serving Front c) (closing Front c) (next_line L Front c []) left refl refl refl ∙ ap (λ (A : List (Act × Tag)). A ++ Before) (part_done (serving Front c) c))
      (λ shut paid. (let l = ltb-true (taken L c + n) (length (sent Front c)) left in let w = long k in absurd (omega (arith, l, w, paid))))

  left_ends : (k : Takes) → is_left L Front c n ≡ true → serving Front c ≡ true → TalksInPart B c octets Written old (acts (trace_of B (After Failed)))
  left_ends k left serves =
      let same : acts (trace_of B (After Failed)) ≡ (Gone c, Done) ∷ Before = acts_so Failed true true (closing Front c) (next_line L Front c []) left serves refl refl in
      let s = spoke_so k in
      let l = ltb-true (taken L c + n) (length (sent Front c)) left in
      let w = long k in
      record {
        tags = k.on.tags;
        some = s.lines.some;
        ample = s.ample;
        fit = s.lines.fit;
        acts = same ∙ ap (λ (H : List (Act × Tag)). (Gone c, Done) ∷ H) s.lines.are;
        within = subst (λ (H : List (Act × Tag)). serving (told B H) c ≡ true) s.lines.are serves;
        in_turn = subst (λ (H : List (Act × Tag)). AreInTurn (told B H) c Written) s.lines.are s.lines.in_turn;
        replies = subst (λ (H : List (Act × Tag)). Written ≡ take (length Written) (sent (told B H) c)) (sym same) s.lines.replies;
        left = subst (λ (H : List (Act × Tag)). length Written < length (sent (told B H) c)) (sym same) (omega (arith, l, w));
      }

  left_breaks : (k : Takes) → is_left L Front c n ≡ true → Breaks B c old octets Written true (After NoMemory)
  left_breaks k left =
      let s = spoke_so k in
      let l = ltb-true (taken L c + n) (length (sent Front c)) left in
      let w = long k in
      let same : acts (trace_of B (After NoMemory)) ≡ (Gone c, Done) ∷ Before =
      acts_so NoMemory true (serving Front c) (closing Front c) (next_line L Front c []) left refl refl refl ∙ ap (λ (A : List (Act × Tag)). A ++ Before) (part_lacks (serving Front c) c) in
      record {
        tags = k.on.tags;
        spoken_so = Before;
        lines = s.lines;
        ample = λ e. cc;
        broken = inr (same, left_open (connected Front c) (closing Front c) (length Written) (sent Front c) s.here (omega (arith, l, w)));
      }

  -- ---- all is taken

  paid_so : (k : Takes) → is_left L Front c n ≡ false → length (sent Front c) ≤ length Written
  paid_so k all = let l = ltb-false (taken L c + n) (length (sent Front c)) all in let w = long k in omega (arith, l, w)

  closing_goes : (k : Takes) → is_left L Front c n ≡ false → closing Front c ≡ true → GoesOn B c old octets Written (After Done)
  closing_goes k all closes =
      still k Done (acts_so Done false (serving Front c) true (next_line L Front c []) all refl closes refl)
      (λ shut paid. absurd (apart (closing Front c) closes shut))
    where
      apart : (b : Bool) → b ≡ true → b ≡ false → ⊥
      apart b e f = cc

  none_goes : (k : Takes) → is_left L Front c n ≡ false → closing Front c ≡ false → slice_get (cut octets) (length k.on.tags) ≡ None → GoesOn B c old octets Written (After Done)
  none_goes k all shut none =
      still k Done (acts_so Done false (serving Front c) false None all refl shut (next_so k ∙ none))
      (λ s p. none_past (cut octets) (length k.on.tags) none)

  may_so : (k : Takes) (x : Cut) (t : Tag) → is_left L Front c n ≡ false → closing Front c ≡ false → slice_get (cut octets) (length k.on.tags) ≡ Some x
      → may_show (trace_of B L) (event.Took c n) t ≡ true → may_be B Front c x t ≡ true
  may_so k x Done all shut there may = refl
  may_so k x NoMemory all shut there may = refl
  may_so k x Failed all shut there may = sym (fails_so false (serving Front c) false (Some x) all refl shut (next_so k ∙ there)) ∙ may

  line_so : (k : Takes) (x : Cut) (t : Tag) → is_left L Front c n ≡ false → closing Front c ≡ false → slice_get (cut octets) (length k.on.tags) ≡ Some x
      → acts (trace_of B (After t)) ≡ (Line c x, t) ∷ Before
  line_so k x t all shut there = acts_so t false (serving Front c) false (Some x) all refl shut (next_so k ∙ there)

  line_goes : (k : Takes) (x : Cut) (t : Tag) → is_no_memory t ≡ false → is_left L Front c n ≡ false → closing Front c ≡ false
      → slice_get (cut octets) (length k.on.tags) ≡ Some x → may_show (trace_of B L) (event.Took c n) t ≡ true → GoesOn B c old octets Written (After t)
  line_goes k x t kept all shut there may =
      let same = line_so k x t all shut there in
      record {
        tags = k.on.tags ++ t ∷ [];
        heard = k.on.heard;
        took = took_so k t;
        spoke = subst (λ (H : List (Act × Tag)). Spoke B c old octets Written (k.on.tags ++ t ∷ []) H) (sym same)
            (spoke_line B c old octets Written k.on.tags Before (spoke_so k) x t shut (paid_so k all) there (may_so k x t all shut there may) kept);
        each = λ s p.
            (let q : length (sent (told B ((Line c x, t) ∷ Before)) c) ≤ length Written = subst (λ (H : List (Act × Tag)). length (sent (told B H) c) ≤ length Written) same p in
            let owes = line_owes B c old octets Written k.on.tags Before (spoke_so k) x t kept in
            absurd (omega (arith, q, owes)));
      }

  line_breaks : (k : Takes) (x : Cut) → is_left L Front c n ≡ false → closing Front c ≡ false → slice_get (cut octets) (length k.on.tags) ≡ Some x
      → Breaks B c old octets Written true (After NoMemory)
  line_breaks k x all shut there =
      record {
        tags = k.on.tags ++ NoMemory ∷ [];
        spoken_so = (Line c x, NoMemory) ∷ Before;
        lines = lines_line B c old octets Written k.on.tags Before (spoke_so k) x NoMemory shut (paid_so k all) there refl;
        ample = λ e. cc;
        broken = inl (line_so k x NoMemory all shut there, took_so k NoMemory);
      }

  -- ---- by its tag

  abbrev Next : Tag → Type 0
  Next t = GoesOn B c old octets Written (After t) ⊎ (TalksInPart B c octets Written old (acts (trace_of B (After t))) × (t ≡ Failed))

  done_next : (k : Takes) → (a b : Bool) (o : Option Cut) → is_left L Front c n ≡ a → closing Front c ≡ b → slice_get (cut octets) (length k.on.tags) ≡ o → Next Done
  done_next k true b o p q r = inl (left_goes k p)
  done_next k false true o p q r = inl (closing_goes k p q)
  done_next k false false None p q r = inl (none_goes k p q r)
  done_next k false false (Some x) p q r = inl (line_goes k x Done refl p q r refl)

  failed_next : (k : Takes) → may_show (trace_of B L) (event.Took c n) Failed ≡ true → (a s b : Bool) (o : Option Cut) → is_left L Front c n ≡ a → serving Front c ≡ s → closing Front c ≡ b
      → slice_get (cut octets) (length k.on.tags) ≡ o → Next Failed
  failed_next k may true true b o p q r w = inr (left_ends k p q, refl)
  failed_next k may true false b o p q r w = absurd (never (sym (fails_so true false b (next_line L Front c []) p q r refl) ∙ may))
    where
      never : false ≡ true → ⊥
      never e = cc
  failed_next k may false s true o p q r w = absurd (never (sym (fails_so false s true (next_line L Front c []) p q r refl) ∙ may))
    where
      never : false ≡ true → ⊥
      never e = cc
  failed_next k may false s false None p q r w = absurd (never (sym (fails_so false s false None p q r (next_so k ∙ w)) ∙ may))
    where
      never : false ≡ true → ⊥
      never e = cc
  failed_next k may false s false (Some x) p q r w = inl (line_goes k x Failed refl p r w may)

  lacking_next : (k : Takes) → may_show (trace_of B L) (event.Took c n) NoMemory ≡ true → (a b : Bool) (o : Option Cut) → is_left L Front c n ≡ a → closing Front c ≡ b
      → slice_get (cut octets) (length k.on.tags) ≡ o → Breaks B c old octets Written true (After NoMemory)
  lacking_next k may true b o p q r = left_breaks k p
  lacking_next k may false true o p q r = absurd (never (sym (lacks_so false true (next_line L Front c []) p q refl) ∙ may))
    where
      never : false ≡ true → ⊥
      never e = cc
  lacking_next k may false false None p q r = absurd (never (sym (lacks_so false false None p q (next_so k ∙ r)) ∙ may))
    where
      never : false ≡ true → ⊥
      never e = cc
  lacking_next k may false false (Some x) p q r = line_breaks k x p q r

  next_by_tag : (k : Takes) (t : Tag) → is_no_memory t ≡ false → may_show (trace_of B L) (event.Took c n) t ≡ true → Next t
  next_by_tag k Done kept may = done_next k (is_left L Front c n) (closing Front c) (slice_get (cut octets) (length k.on.tags)) refl refl refl
  next_by_tag k Failed kept may = failed_next k may (is_left L Front c n) (serving Front c) (closing Front c) (slice_get (cut octets) (length k.on.tags)) refl refl refl refl
  next_by_tag k NoMemory kept may = cc

  breaks_by_tag : (k : Takes) (t : Tag) → is_no_memory t ≡ true → may_show (trace_of B L) (event.Took c n) t ≡ true → Breaks B c old octets Written true (After t)
  breaks_by_tag k Done lack may = cc
  breaks_by_tag k Failed lack may = cc
  breaks_by_tag k NoMemory lack may = lacking_next k may (is_left L Front c n) (closing Front c) (slice_get (cut octets) (length k.on.tags)) refl refl refl

  -- ---- by its outcome

  took_shows : Takes → (lends : ℕ → ℕ) → length lent ≡ lends c → (o : Outcome) → (h : IsOutcome (trace_of B L) lends (event.Took c n) o) → Shows h.tag o
  took_shows k lends count o h =
      shows (λ t. shown_at B L Front (event.Took c n) t) refl refl refl (ignored (trace_of B L) lends (event.Took c n))
      (took_if (is_open (trace_of B L) c) ((n == 0) || nat_lt (lends c) n) (takes_open k) (let f = k.fits in amiss n (lends c) k.some (omega (arith, f, count)))) h.tag o h.is

  -- it goes on, or a later part of a message can't be read
  pub takes_on : Takes → (lends : ℕ → ℕ) → length lent ≡ lends c → (o : Outcome) → IsOutcome (trace_of B L) lends (event.Took c n) o → is_lack o ≡ false
      → GoesOn B c old octets Written ((event.Took c n, event_tag_of o) ∷ L)
      ⊎ (TalksInPart B c octets Written old (acts (trace_of B ((event.Took c n, event_tag_of o) ∷ L))) × (o ≡ outcome.Failed))
  takes_on k lends count o h kept =
      let s = took_shows k lends count o h in
      ⊎_elim
      (λ (g : GoesOn B c old octets Written (After h.tag)). inl (subst (λ m. GoesOn B c old octets Written ((event.Took c n, m) ∷ L)) (sym s.event_tag) g))
      (λ (g : TalksInPart B c octets Written old (acts (trace_of B (After h.tag))) × (h.tag ≡ Failed)).
      inr (subst (λ m. TalksInPart B c octets Written old (acts (trace_of B ((event.Took c n, m) ∷ L)))) (sym s.event_tag) g.0, s.failed g.1))
      (next_by_tag k h.tag (sym s.lack ∙ kept) h.may)

  pub takes_last : Takes → (lends : ℕ → ℕ) → length lent ≡ lends c → (o : Outcome) → IsOutcome (trace_of B L) lends (event.Took c n) o → is_lack o ≡ true
      → Breaks B c old octets Written true ((event.Took c n, event_tag_of o) ∷ L)
  takes_last k lends count o h lack =
      let s = took_shows k lends count o h in
      subst (λ m. Breaks B c old octets Written true ((event.Took c n, m) ∷ L)) (sym s.event_tag) (breaks_by_tag k h.tag (sym s.lack ∙ lack) h.may)
