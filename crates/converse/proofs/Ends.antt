-- How a conversation begins, and how it comes out once its connection is gone.
use Rattle.std.proofs.lemmas.Bool.{and_right}
use Rattle.std.proofs.Common.{◌≡◌, ℕ, zero, suc, ◌-◌, ◌<◌, ◌≤◌, Bool, true, false, not, ◌&&◌, ◌||◌, cond, List, [], ◌∷◌, ◌++◌, length, take, drop, refl, sym, ◌∙◌, ap, arith}
use Rattle.std.proofs.Common.{length-append, subst, eq-eqb, inl, inr, ⊎_elim, MatchResult}
use Rattle.std.proofs.lemmas.List.{length-take}
use Rattle.std.proofs.lemmas.List.Folds.{list_any-append}
use Rattle.std.specs.List.{list_any, zip}
use Rattle.popline.specs.Cutting.{Cut, cut}
use Rattle.vault.specs.Records.{Records}
use Rattle.vault.specs.Calls.{has_grown}
use Rattle.office.specs.History.{Act, Line, Gone, Tag, Done, Failed, NoMemory, is_no_memory}
use Rattle.office.specs.Connections.{connected, closing, sent}
use Rattle.office.specs.Replying.{is_empty}
use Rattle.office.specs.Told.{told}
use Rattle.office.specs.Events.{Tagged, Log, Trace}
use Rattle.office.specs.Events as event
use Rattle.office.specs.Log.{taken, next_number}
use Rattle.office.specs.Trace.{acts, history, rest, rest_if, is_open, is_open_by, untaken, IsLent}
use Rattle.office.specs.Expected.{IsOutcome, ignored, shown_at, or_ignored, reason_if, may_show, is_full}
use Rattle.office.specs.Outcomes.{Outcome, Reason, NoSuchConnection, TooManyConnections, Opened, event_tag_of}
use Rattle.office.specs.Outcomes as outcome
use Rattle.converse.specs.Talk.{goes_on, acted_on, spoken, opened_on, AreInTurn, left_unless_closing, Talks, TalksInPart, BreaksOff, BreaksOffReading}
use Rattle.converse.specs.Talked.{trace_of}
use Rattle.converse.specs.Conversing.{GoesOn, Waits, Breaks, AreBroken, opened_by, Refuses, Midway}
use Rattle.converse.proofs.Lines.{spoken_past, fit_past}
use Rattle.converse.proofs.Saying.{whole, line_here}
use Rattle.converse.proofs.Takings.{left_open}
use Rattle.converse.proofs.Events.{empty_past, ready_so}

-- ---- the opening

opened_if : (b : Bool) (s : Outcome) (c : ℕ) → or_ignored (reason_if b TooManyConnections) s ≡ Opened c → s ≡ Opened c
opened_if true s c e = cc
opened_if false s c e = e

-- what Connect is never answered
is_odd : Outcome → Bool
is_odd (Opened c) = false
is_odd outcome.Done = true
is_odd outcome.Failed = true
is_odd outcome.NoMemory = false
is_odd (outcome.Ignored r) = false
is_odd (outcome.Answered a) = true

module _ (T : Trace) (lent : ℕ → ℕ) where
  opened_number : (t : Tag) (c : ℕ) → shown_at T.base T.log (history T) event.Connect t ≡ Opened c → c ≡ next_number T.log
  opened_number Done c e = cc
  opened_number Failed c e = cc
  opened_number NoMemory c e = cc

  even : (b : Bool) (t : Tag) (o : Outcome) → may_show T event.Connect t ≡ true
      → o ≡ or_ignored (reason_if b TooManyConnections) (shown_at T.base T.log (history T) event.Connect t) → is_odd o ≡ false
  unfolding is_odd
  even true t o may e = rw e refl
  even false Done o may e = rw e refl
  even false Failed o may e = cc
  even false NoMemory o may e = rw e refl

  begun : GoesOn T.base (next_number T.log) (acts T) [] [] ((event.Connect, Tagged Done) ∷ T.log)
  begun =
      let q = eq-eqb (next_number T.log) (next_number T.log) refl in
      record {
        tags = [];
        heard = rw q refl;
        took = rw q refl;
        spoke = record {
          lines = record { some = omega arith; fit = refl; are = refl; in_turn = rw q (omega arith); replies = refl };
          ample = refl;
          count = rw q refl;
          here = rw q refl;
        };
        each = λ shut paid. omega arith;
      }

  -- what the opening says, by its outcome
  refused_full : (b : Bool) (t : Tag) (r : Reason) → outcome.Ignored r ≡ or_ignored (reason_if b TooManyConnections) (shown_at T.base T.log (history T) event.Connect t) → b ≡ true
  refused_full true t r e = refl
  refused_full false Done r e = cc
  refused_full false Failed r e = cc
  refused_full false NoMemory r e = cc

  pub connects : (o : Outcome) → IsOutcome T lent event.Connect o
      → MatchResult (opened_by o) (λ c. (c ≡ next_number T.log) × GoesOn T.base (next_number T.log) (acts T) [] [] ((event.Connect, event_tag_of o) ∷ T.log))
      (λ e. Refuses T e ((event.Connect, event_tag_of o) ∷ T.log))
  unfolding is_odd
  connects (Opened c) h = (opened_number h.tag c (opened_if (is_full T) (shown_at T.base T.log (history T) event.Connect h.tag) c (sym h.is)), begun)
  connects outcome.Done h = let q = even (is_full T) h.tag outcome.Done h.may h.is in cc
  connects outcome.Failed h = let q = even (is_full T) h.tag outcome.Failed h.may h.is in cc
  connects outcome.NoMemory h = record { same = refl; cause = inl (refl, (event.Connect, T.log, refl)) }
  connects (outcome.Ignored r) h = record { same = refl; cause = inr (refl, refused_full (is_full T) h.tag r h.is) }
  connects (outcome.Answered a) h = let q = even (is_full T) h.tag (outcome.Answered a) h.may h.is in cc

-- ---- the end

gone_mark : (b : Bool) (o : Outcome) → o ≡ or_ignored (reason_if (not b) NoSuchConnection) outcome.Done → event_tag_of o ≡ cond b (Tagged Done) event.Ignored
gone_mark true o e = rw e refl
gone_mark false o e = rw e refl

closed_if : (k cl e : Bool) → (k && not (cl && e)) ≡ false → k ≡ true → (cl ≡ true) × (e ≡ true)
closed_if true true true h q = (refl, refl)
closed_if true true false h q = cc
closed_if true false e h q = cc
closed_if false cl e h q = cc

dones : ℕ → List Tag
dones zero = []
dones (suc n) = Done ∷ dones n

length_dones : (n : ℕ) → length (dones n) ≡ n
unfolding dones
length_dones zero = refl
length_dones (suc n) = ap suc (length_dones n)

ample_dones : (n : ℕ) → list_any is_no_memory (dones n) ≡ false
unfolding dones
ample_dones zero = refl
ample_dones (suc n) = ample_dones n

module _ (B : Records) (c : ℕ) (old : List (Act × Tag)) (octets written : List ℕ) where
  abbrev Went : List (Act × Tag) → List (Act × Tag)
  Went H = (Gone c, Done) ∷ H

  -- its acts once it is gone, done or ignored
  abbrev pub GoneActs : Log → Log → Type 0
  GoneActs L after = acts (trace_of B after) ≡ cond (is_open (trace_of B L) c) (Went (acts (trace_of B L))) (acts (trace_of B L))

  gone_at : (L : Log) (b : Bool) → acts (trace_of B ((event.Gone c, cond b (Tagged Done) event.Ignored) ∷ L)) ≡ cond b (Went (acts (trace_of B L))) (acts (trace_of B L))
  gone_at L true = refl
  gone_at L false = refl

  shut_at : (L : Log) (b : Bool) → is_open (trace_of B L) c ≡ b → is_open (trace_of B ((event.Gone c, cond b (Tagged Done) event.Ignored) ∷ L)) c ≡ false
  shut_at L true e = let q = eq-eqb c c refl in rw q refl
  shut_at L false e = e

  gone_tag : (L : Log) (t : Tag) → may_show (trace_of B L) (event.Gone c) t ≡ true → t ≡ Done
  gone_tag L Done e = refl
  gone_tag L Failed e = cc
  gone_tag L NoMemory e = cc

  gone_so : (L : Log) (lent : ℕ → ℕ) (o : Outcome) → IsOutcome (trace_of B L) lent (event.Gone c) o → event_tag_of o ≡ cond (is_open (trace_of B L) c) (Tagged Done) event.Ignored
  gone_so L lent o h =
      gone_mark (is_open (trace_of B L) c) o
      (h.is ∙ ap (λ t. or_ignored (ignored (trace_of B L) lent (event.Gone c)) (shown_at B L (history (trace_of B L)) (event.Gone c) t)) (gone_tag L h.tag h.may))

  pub goes : (L : Log) (lent : ℕ → ℕ) (o : Outcome) → IsOutcome (trace_of B L) lent (event.Gone c) o
      → GoneActs L ((event.Gone c, event_tag_of o) ∷ L) × (is_open (trace_of B ((event.Gone c, event_tag_of o) ∷ L)) c ≡ false)
  goes L lent o h =
      let m = gone_so L lent o h in
      let b = is_open (trace_of B L) c in (
        ap (λ q. acts (trace_of B ((event.Gone c, q) ∷ L))) m ∙ gone_at L b,
        ap (λ q. is_open (trace_of B ((event.Gone c, q) ∷ L)) c) m ∙ shut_at L b refl,
      )

  gone_open : (L after : Log) → GoneActs L after → is_open (trace_of B L) c ≡ true → acts (trace_of B after) ≡ Went (acts (trace_of B L))
  gone_open L after g e = g ∙ ap (λ b. cond b (Went (acts (trace_of B L))) (acts (trace_of B L))) e

  gone_shut : (L after : Log) → GoneActs L after → is_open (trace_of B L) c ≡ false → acts (trace_of B after) ≡ acts (trace_of B L)
  gone_shut L after g e = g ∙ ap (λ b. cond b (Went (acts (trace_of B L))) (acts (trace_of B L))) e

  -- ---- it waited for octets

  left_so : (H : List (Act × Tag)) → closing (told B H) c ≡ false → left_unless_closing B c H ≡ Went H
  left_so H e = rw e refl

  stayed_so : (H : List (Act × Tag)) → closing (told B H) c ≡ true → left_unless_closing B c H ≡ H
  stayed_so H e = rw e refl

  pub waited_reading : (L after : Log) → Waits B c old octets written L → GoneActs L after → BreaksOffReading B c octets written old (acts (trace_of B after))
  waited_reading L after w g =
      let r = ready_so B c old octets written L w in
      let s = w.on.spoke in
      let same = gone_open L after g r.opened in
      let a = w.on.each r.shut r.paid in
      let b = s.lines.some in
      record {
        tags = w.on.tags;
        each = omega (arith, a, b);
        ample = s.ample;
        fit = s.lines.fit;
        acts = same ∙ ap Went s.lines.are;
        not_closing = subst (λ (H : List (Act × Tag)). closing (told B H) c ≡ false) s.lines.are r.shut;
        replies = subst (λ (H : List (Act × Tag)). written ≡ sent (told B H) c) (sym same) (whole written (sent (history (trace_of B L)) c) s.lines.replies r.paid);
      }

  pub waited : (L after : Log) → Waits B c old octets written L → GoneActs L after → (AtEnd : Type 0) → AtEnd → Talks B c octets written AtEnd old (acts (trace_of B after))
  waited L after w g AtEnd ended =
      let r = waited_reading L after w g in
      record {
        tags = r.tags;
        each = r.each;
        ample = r.ample;
        fit = r.fit;
        acts = r.acts ∙ sym (left_so (spoken B c octets r.tags old) r.not_closing);
        ended = λ e. ended;
        replies = r.replies;
      }

  -- ---- its last line closed it

  pub closed : (L after : Log) → GoesOn B c old octets written L → is_open (trace_of B L) c ≡ false → GoneActs L after → (AtEnd : Type 0) → Talks B c octets written AtEnd old (acts (trace_of B after))
  closed L after on shut g AtEnd =
      let G = history (trace_of B L) in
      let s = on.spoke in
      let same = gone_shut L after g shut in
      let both = closed_if (connected G c) (closing G c) (is_empty (untaken L G c)) shut s.here in
      let K = spoken B c octets on.tags old in
      let closes : closing (told B K) c ≡ true = subst (λ (H : List (Act × Tag)). closing (told B H) c ≡ true) s.lines.are both.0 in
      let off : goes_on (told B K) c ≡ false = and_right (connected (told B K) c) (not (closing (told B K) c)) (ap not closes) in
      let more = dones (length (cut octets) - length on.tags) in
      let past = spoken_past B c octets on.tags old more off s.lines.some in
      let n = length_dones (length (cut octets) - length on.tags) in
      let some = s.lines.some in
      let t = on.took in
      let e = empty_past (taken L c) (sent G c) both.1 in
      let paid : length (sent G c) ≤ length written = omega (arith, t, e) in
      record {
        tags = on.tags ++ more;
        each = omega (arith, n, some, length-append on.tags more);
        ample = list_any-append is_no_memory on.tags more ∙ (let a = s.ample in let b = ample_dones (length (cut octets) - length on.tags) in rw (a, b) refl);
        fit = fit_past B c octets on.tags old more off s.lines.some s.lines.fit;
        acts = same ∙ (s.lines.are ∙ sym (ap (left_unless_closing B c) past ∙ stayed_so K closes));
        ended = λ q. absurd (apart (closing (told B (spoken B c octets (on.tags ++ more) old)) c) (subst (λ (H : List (Act × Tag)). closing (told B H) c ≡ true) (sym past) closes) q);
        replies = subst (λ (H : List (Act × Tag)). written ≡ sent (told B H) c) (sym same) (whole written (sent G c) s.lines.replies paid);
      }
    where
      apart : (b : Bool) → b ≡ true → b ≡ false → ⊥
      apart b e f = cc

  -- ---- a later part of a message couldn't be read

  went_shut : (H : List (Act × Tag)) → connected (told B (Went H)) c ≡ false
  went_shut H = let q = eq-eqb c c refl in rw q refl

  shut_by : (L : Log) (H : List (Act × Tag)) → acts (trace_of B L) ≡ Went H → is_open (trace_of B L) c ≡ false
  shut_by L H e =
      let k : connected (history (trace_of B L)) c ≡ false = ap (λ (K : List (Act × Tag)). connected (told B K) c) e ∙ went_shut H in
      rw k refl

  pub part_shut : (L : Log) → TalksInPart B c octets written old (acts (trace_of B L)) → is_open (trace_of B L) c ≡ false
  part_shut L p = shut_by L (spoken B c octets p.tags old) p.acts

  pub part_stays : (L after : Log) → TalksInPart B c octets written old (acts (trace_of B L)) → GoneActs L after → TalksInPart B c octets written old (acts (trace_of B after))
  part_stays L after p g = subst (λ (H : List (Act × Tag)). TalksInPart B c octets written old H) (sym (gone_shut L after g (part_shut L p))) p

  none_of : (b : Bool) (u lent : List ℕ) → b ≡ false → IsLent (rest_if b u) lent → length lent ≡ 0
  none_of true u lent e l = cc
  none_of false u lent e l = let n = ap length l.beginning in omega (arith, n, length-take (length lent) (rest_if false u))

  pub part_lends : (L : Log) (lent : List ℕ) → TalksInPart B c octets written old (acts (trace_of B L)) → IsLent (rest (trace_of B L) c) lent → length lent ≡ 0
  part_lends L lent p l = none_of (is_open (trace_of B L) c) (untaken L (history (trace_of B L)) c) lent (part_shut L p) l

  here_all : (xs : List Cut) (tags : List Tag) (H : List (Act × Tag)) → list_any is_no_memory tags ≡ false → connected (told B (acted_on B c (zip xs tags) H)) c ≡ connected (told B H) c
  here_all [] tags H e = refl
  here_all (x ∷ xs) [] H e = refl
  here_all (x ∷ xs) (t ∷ tags) H e =
      here_if (goes_on (told B H) c) (acted_on B c (zip xs tags) ((Line c x, t) ∷ H)) H
      (here_all xs tags ((Line c x, t) ∷ H) (first_of_none (is_no_memory t) (list_any is_no_memory tags) e).1 ∙ line_here B c H x t (first_of_none (is_no_memory t) (list_any is_no_memory tags) e).0)
    where
      here_if : (b : Bool) (K H : List (Act × Tag)) → connected (told B K) c ≡ connected (told B H) c → connected (told B (cond b K H)) c ≡ connected (told B H) c
      here_if true K H e = e
      here_if false K H e = refl

      first_of_none : (a b : Bool) → (a || b) ≡ false → (a ≡ false) × (b ≡ false)
      first_of_none true b e = cc
      first_of_none false b e = (refl, e)

  here_spoken : (tags : List Tag) → list_any is_no_memory tags ≡ false → connected (told B (spoken B c octets tags old)) c ≡ true
  here_spoken tags e = here_all (cut octets) tags (opened_on c old) e ∙ (let q = eq-eqb c c refl in rw q refl)

  pub goes_broken : (L : Log) → GoesOn B c old octets written L → Breaks B c old octets written false L
  goes_broken L on = record { tags = on.tags; spoken_so = acts (trace_of B L); lines = on.spoke.lines; ample = λ e. on.spoke.ample; broken = inl (refl, on.took) }

  pub part_broken : (L : Log) → TalksInPart B c octets written old (acts (trace_of B L)) → Breaks B c old octets written false L
  part_broken L p =
      let K = spoken B c octets p.tags old in
      let same : sent (told B (acts (trace_of B L))) c ≡ sent (told B K) c = ap (λ (H : List (Act × Tag)). sent (told B H) c) p.acts in
      let left : length written < length (sent (told B K) c) = subst (λ (xs : List ℕ). length written < length xs) same p.left in
      record {
        tags = p.tags;
        spoken_so = K;
        lines = record {
          some = p.some;
          fit = p.fit;
          are = refl;
          in_turn = p.in_turn;
          replies = p.replies ∙ ap (λ (xs : List ℕ). take (length written) xs) same;
        };
        ample = λ e. p.ample;
        broken = inr (p.acts, left_open (connected (told B K) c) (closing (told B K) c) (length written) (sent (told B K) c) (here_spoken p.tags p.ample) left);
      }

  pub midway_broken : (before now : ℕ) (L : Log) → Midway before now B c old octets written L → Breaks B c old octets written false L
  midway_broken before now L m = ⊎_elim
      (λ (g : GoesOn B c old octets written L). goes_broken L g)
      (λ (p : TalksInPart B c octets written old (acts (trace_of B L)) × (has_grown before now ≡ true)). part_broken L p.0)
      m

  -- ---- a fault broke it off

  left_by : ℕ → List (Act × Tag) → List (Act × Tag)
  left_by n H = cond (is_open_by (connected (told B H) c) (closing (told B H) c) (drop n (sent (told B H) c))) (Went H) H

  sent_if : (b : Bool) (H : List (Act × Tag)) → sent (told B (cond b (Went H) H)) c ≡ sent (told B H) c
  sent_if true H = refl
  sent_if false H = refl

  sent_left : (n : ℕ) (H : List (Act × Tag)) → sent (told B (left_by n H)) c ≡ sent (told B H) c
  unfolding left_by
  sent_left n H = sent_if (is_open_by (connected (told B H) c) (closing (told B H) c) (drop n (sent (told B H) c))) H

  left_at : (L after : Log) (H : List (Act × Tag)) → AreBroken B c written H L → GoneActs L after → acts (trace_of B after) ≡ left_by (length written) H
  unfolding left_by
  left_at L after H b g = ⊎_elim
      (λ (p : (acts (trace_of B L) ≡ H) × (taken L c ≡ length written)).
      g ∙ (ap (λ n. left_by n (acts (trace_of B L))) p.1 ∙ ap (λ K. left_by (length written) K) p.0))
      (λ (p : (acts (trace_of B L) ≡ Went H) × (is_open_by (connected (told B H) c) (closing (told B H) c) (drop (length written) (sent (told B H) c)) ≡ true)).
      gone_shut L after g (shut_by L H p.0) ∙ (p.0 ∙ sym (ap (λ b. cond b (Went H) H) p.1)))
      b

  pub broken : (lacked : Bool) (L after : Log) → Breaks B c old octets written lacked L → GoneActs L after → BreaksOff B c octets written lacked old (acts (trace_of B after))
  unfolding left_by
  broken lacked L after b g =
      let same = left_at L after b.spoken_so b.broken g in
      record {
        tags = b.tags;
        some = b.lines.some;
        ample = b.ample;
        fit = b.lines.fit;
        acts = same ∙ ap (left_by (length written)) b.lines.are;
        in_turn = subst (λ (H : List (Act × Tag)). AreInTurn (told B H) c written) b.lines.are b.lines.in_turn;
        replies = b.lines.replies ∙ ap (λ (xs : List ℕ). take (length written) xs) (sym (ap (λ (H : List (Act × Tag)). sent (told B H) c) same ∙ sent_left (length written) b.spoken_so));
      }
