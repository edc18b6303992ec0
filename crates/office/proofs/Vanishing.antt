-- Each message that was removed was taken by a QUIT that was allowed to; every other one that arrived is in its maildrop.
use Rattle.std.specs.Prelude.{◌≡◌, ℕ, zero, suc, ◌+◌, ◌≤◌, Bool, true, false, not, ◌&&◌, ◌||◌, ◌⊎◌, ◌==◌, nat_lt, nat_le, List, [], ◌∷◌, ◌++◌}
use Rattle.std.specs.Prelude.{Option, Some, None, Result, Ok, Err, if◌then◌else◌, cond, map, find, slice_get}
use Rattle.std.proofs.Common.{refl, sym, ◌∙◌, ap, subst, eqb-true, eq-eqb, ⊎_elim, inl, inr, true≢false}
use Rattle.std.proofs.lemmas.Bool.{and_parts, or_cases, or_left, or_right}
use Rattle.std.proofs.lemmas.List.Folds.{list_any-append}
use Rattle.std.proofs.lemmas.Slice.Eq.{bytes_eq-Decides}
use native.Mathlib.Omega.{arith}
use Rattle.std.specs.List.{list_any}
use Rattle.std.specs.Str.{bytes_eq}
use Rattle.mailtext.specs.Text.{kept_form}
use Rattle.creds.specs.declared.login_name.LoginName.{LoginName}
use Rattle.popline.specs.Cutting.{Cut, TooLong}
use Rattle.popline.specs.Cutting as cutting
use Rattle.popline.specs.Commands.{Command, Quit, Dele, Rset, command_of}
use Rattle.popline.specs.declared.command.LineFault.{LineFault}
use Rattle.popline.specs.declared.command.LineFault.TheVariants.{Unknown}
use Rattle.popline.specs.Replies.{Marked, NoSuchMessage, AlreadyMarked}
use Rattle.policy.specs.Policy.{Policy, decision_of, matches, are_distinct}
use Rattle.policy.specs.declared.rule.Action.TheVariants as to
use Rattle.policy.specs.declared.rule.Rule.{Rule}
use Rattle.policy.specs.declared.decide.Decision.{Decision}
use Rattle.vault.specs.Records.{Records, IsSound, class_of, octets_of, most_octets, same_message, is_receipt_for, is_sound_message, is_one_of, in_maildrop, class_count, receipts_of}
use Rattle.vault.specs.Changes.{message_for, receipt_for}
use Rattle.vault.specs.declared.record.Message.{Message}
use Rattle.vault.specs.declared.record.Receipt.{Receipt}
use Rattle.session.specs.View.{at_number, is_marked, marked, numbered, numbered_from, may_remove, removal, referred, to_remove}
use Rattle.session.specs.declared.removals.Removals.{Removals}
use Rattle.session.specs.declared.removals.Removals.TheVariants.{JudgedAtDele, JudgedAtQuit}
use Rattle.office.specs.Answers.{New}
use Rattle.office.specs.History.{Entry, Act, Tag, Done, Failed, NoMemory, Said, Says, Answers, Line, Open, Gone, Idle, Deposit, Administer, Restart, is_done, in_force}
use Rattle.office.specs.History.{arrivals, arrivals_after, receipts, receipts_after}
use Rattle.office.specs.Sessions.{live, login, login_by, quits, quits_if, removed, removed_after, removed_by, view, marks, ends_session, in_session, when_live}
use Rattle.office.specs.Connections.{user, reading, is_quit, judging}
use Rattle.office.specs.Told.{told, said_to}
use Rattle.office.specs.Replying.{said_to_line, deleted_if, name_or_nobody}
use Rattle.office.specs.Laws.{In, may_mark, is_markable, marks_by_view, marks_by_act, marks_by_line, marks_unless_login}
use Rattle.office.specs.Vanishing.{IsDele, is_reset, resets, WasMarked, LetsRemove, IsRemovedBy, WasRemoved, RemovedIsAllowed, taken_on, times_removed, IsStillThere, IsGone}
use Rattle.office.specs.Vanishing.{NothingElseVanishes, NoneComesBack}
use Rattle.office.proofs.Accepting.{taken}
use Rattle.office.proofs.Bounds.{any_witness}
use Rattle.office.proofs.Laws.{live_side, no_opening}
use Rattle.office.proofs.MarksByView.{marks_are_by_view}
use Rattle.office.proofs.Removing.{same_element, in_map}
use Rattle.office.proofs.SmallLemmas.{no_some, and_false}
use Rattle.office.proofs.Snapshot.{snapshot, removed_seen, in_filter, filter_in, in_front, arrivals_stay}
use Rattle.office.proofs.UniqueIds.{all_in, in_last, numbered as receipts_numbered}
use Rattle.vault.proofs.ListLemmas.{not_true, not_false, bytes_same, distinct_last}
use Rattle.vault.proofs.ListLemmas as lists

abbrev entry : Records → Act → Tag → List (Act × Tag) → Entry
entry B a t H = record { act = a; tag = t; said = said_to B (told B H) a t }

session_parts : (b : Bool) (o : Option LoginName) (name : LoginName) → when_live b o ≡ Some name → (b ≡ true) × (o ≡ Some name)
session_parts true o name e = (refl, e)
session_parts false o name e = absurd (no_some name e)

-- ---- a number that is marked was marked by a DELE

marked_last : (ms : List ℕ) (k n : ℕ) → is_marked (ms ++ k ∷ []) n ≡ true → (is_marked ms n ≡ true) ⊎ (k ≡ n)
marked_last [] k n h = ⊎_elim (λ e. inr (eqb-true k n e)) (λ e. absurd (true≢false (sym e))) (or_cases (k == n) false h)
marked_last (m ∷ ms) k n h = ⊎_elim
    (λ e. inl (or_left (m == n) (list_any (λ x. x == n) ms) e))
    (λ i. ⊎_elim (λ j. inl (or_right (m == n) (list_any (λ x. x == n) ms) j)) (λ e. inr e) (marked_last ms k n i))
    (or_cases (m == n) (list_any (λ x. x == n) (ms ++ k ∷ [])) h)

not_reset : (b : Bool) (r : Result Command LineFault) (t : Tag) → is_reset r ≡ false → (b && (is_reset r && is_done t)) ≡ false
not_reset b r t e = rw e (and_false b)

not_done : (b c : Bool) → (b && (c && false)) ≡ false
not_done b c = rw (and_false c) (and_false b)

allowed_marks : (d : Decision) (n : ℕ) → d.allowed ≡ true → deleted_if JudgedAtDele d n ≡ Marked n
allowed_marks d n e = rw e refl

dele_marks : (j : Removals) (o : Option Message) (b : Bool) (n : ℕ) (p : Policy) (name : LoginName) → (not b && is_markable j o p name) ≡ true
    → referred o b NoSuchMessage (AlreadyMarked n) (λ (m : Message). deleted_if j (removal p name m.class) n) ≡ Marked n
dele_marks j None true n p name h = absurd (true≢false (sym h))
dele_marks j None false n p name h = absurd (true≢false (sym h))
dele_marks j (Some m) true n p name h = absurd (true≢false (sym h))
dele_marks JudgedAtQuit (Some m) false n p name h = refl
dele_marks JudgedAtDele (Some m) false n p name h = allowed_marks (removal p name m.class) n h

module _ (B : Records) (H : List (Act × Tag)) (c n : ℕ) (l : live (told B H) c ≡ true) where
  abbrev G : List Entry
  G = told B H

  abbrev before : List ℕ
  before = marks_by_view B (told B H) c

  -- what the marks after an act come from
  abbrev Comes : Act → Tag → Type 0
  Comes a t = IsDele (entry B a t H) c n ⊎ ((resets a t c ≡ false) × (is_marked before n ≡ true))

  said_so : (octets : List ℕ) (k : ℕ) → command_of octets ≡ Ok (Dele k) → may_mark B G c (name_or_nobody (login G c)) before k ≡ true
      → said_to_line B G c (cutting.Line octets) Done ≡ Says (Marked k)
  said_so octets k r h =
      let same : marks G c ≡ before = marks_are_by_view B H c l in
      let may : may_mark B G c (name_or_nobody (login G c)) (marks G c) k ≡ true = rw same h in
      rw (l, r) (ap (λ x. Says x) (dele_marks (judging G) (at_number (view B G c) k) (is_marked (marks G c) k) k (in_force B G) (name_or_nobody (login G c)) may))

  by_mark : (octets : List ℕ) (k : ℕ) → command_of octets ≡ Ok (Dele k) → (b : Bool) → may_mark B G c (name_or_nobody (login G c)) before k ≡ b
      → is_marked (if b then before ++ k ∷ [] else before) n ≡ true → Comes (Line c (cutting.Line octets)) Done
  by_mark octets k r false may h = inr (not_reset (c == c) (command_of octets) Done (ap is_reset r), h)
  by_mark octets k r true may h = ⊎_elim
      (λ i. inr (not_reset (c == c) (command_of octets) Done (ap is_reset r), i))
      (λ (e : k ≡ n). inl (subst (λ q. IsDele (entry B (Line c (cutting.Line octets)) Done H) c q) e
      (record { line = cutting.Line octets; act = refl; read = r; said = said_so octets k r may })))
      (marked_last before k n h)

  by_reading : (octets : List ℕ) (r : Result Command LineFault) → command_of octets ≡ r → is_marked (marks_by_line B G c r before) n ≡ true
      → Comes (Line c (cutting.Line octets)) Done
  by_reading octets (Err f) e h = inr (not_reset (c == c) (command_of octets) Done (ap is_reset e), h)
  by_reading octets (Ok (Dele k)) e h = by_mark octets k e (may_mark B G c (name_or_nobody (login G c)) before k) refl h
  by_reading octets (Ok Rset) e h = absurd (true≢false (sym h))
  by_reading octets (Ok _) e h = inr (not_reset (c == c) (command_of octets) Done (ap is_reset e), h)

  by_cut : (x : Cut) → is_marked (marks_by_line B G c (reading x) before) n ≡ true → Comes (Line c x) Done
  by_cut TooLong h = inr (not_reset (c == c) (Err Unknown) Done refl, h)
  by_cut (cutting.Line octets) h = by_reading octets (command_of octets) refl h

  by_number : (k : ℕ) (x : Cut) (b : Bool) → (k == c) ≡ b → is_marked (if b then marks_by_line B G c (reading x) before else before) n ≡ true → Comes (Line k x) Done
  by_number k x false e h = inr (rw e refl, h)
  by_number k x true e h = subst (λ q. Comes (Line q x) Done) (sym (eqb-true k c e)) (by_cut x h)

  by_act : (a : Act) (t : Tag) → is_marked (marks_by_act B G c a t before) n ≡ true → Comes a t
  by_act (Line k x) Done h = by_number k x (k == c) refl h
  by_act (Line k x) Failed h = inr (not_done (k == c) (is_reset (reading x)), h)
  by_act (Line k x) NoMemory h = inr (not_done (k == c) (is_reset (reading x)), h)
  by_act (Open k) t h = inr (refl, h)
  by_act (Gone k) t h = inr (refl, h)
  by_act (Idle k) t h = inr (refl, h)
  by_act (Deposit d class id text) t h = inr (refl, h)
  by_act (Administer command) t h = inr (refl, h)
  by_act (Restart boot host removals) t h = inr (refl, h)

was_marked : (B : Records) (H : List (Act × Tag)) (c : ℕ) (name : LoginName) (n : ℕ) → in_session (told B H) c ≡ Some name → is_marked (marks_by_view B (told B H) c) n ≡ true
    → WasMarked (told B H) c name n
was_marked B [] c name n s h = absurd (true≢false (sym h))
was_marked B ((a, t) ∷ H) c name n s h = by_login (login_by a (said_to B (told B H) a t) c (user (told B H) c)) refl h (λ q i. was_marked B H c name n q i)
  where
    parts : (live (entry B a t H ∷ told B H) c ≡ true) × (login (entry B a t H ∷ told B H) c ≡ Some name)
    parts = session_parts (live (entry B a t H ∷ told B H) c) (login (entry B a t H ∷ told B H) c) name s

    side : (ends_session a t (said_to B (told B H) a t) c ≡ false) × ((login_by a (said_to B (told B H) a t) c (user (told B H) c) ≡ None) → live (told B H) c ≡ true)
    side = live_side (ends_session a t (said_to B (told B H) a t) c) (login_by a (said_to B (told B H) a t) c (user (told B H) c)) (live (told B H) c) parts.0

    by_login : (o : Option LoginName) → login_by a (said_to B (told B H) a t) c (user (told B H) c) ≡ o
        → is_marked (marks_unless_login o (marks_by_act B (told B H) c a t (marks_by_view B (told B H) c))) n ≡ true
        → (in_session (told B H) c ≡ Some name → is_marked (marks_by_view B (told B H) c) n ≡ true → WasMarked (told B H) c name n) → WasMarked (entry B a t H ∷ told B H) c name n
    by_login (Some who) f k before = absurd (true≢false (sym k))
    by_login None f k before =
        let l = side.1 f in
        let op = no_opening a t (said_to B (told B H) a t) c side.0 in
        let g : login (told B H) c ≡ Some name = rw (op, f) at parts.1 in
        let s' : in_session (told B H) c ≡ Some name = rw (l, g) refl in
        (s', ⊎_elim (λ d. inl d) (λ i. inr (i.0, before s' i.1)) (by_act B H c n l a t k))

-- ---- what a QUIT removes

numbered_at : (n : ℕ) (ms : List Message) (row : ℕ × Message) → In row (numbered_from n ms) → (k : ℕ) × (row.0 ≡ k + n) × (slice_get ms k ≡ Some row.1)
numbered_at n [] row h = absurd h
numbered_at n (m ∷ ms) row h = ⊎_elim
    (λ (e : row ≡ (n, m)). let f = ap (λ (r : ℕ × Message). r.0) e in (0, omega arith, ap (λ (r : ℕ × Message). Some r.1) (sym e)))
    (λ i. let r = numbered_at (n + 1) ms row i in let f = r.1 in (suc r.0, omega arith, r.2)) h

-- a message that a QUIT removes has a number that is marked, and its class may be removed
record IsTaken (p : Policy) (name : LoginName) (ks : List ℕ) (ms : List Message) (m : Message) : Type 0 where
  number : ℕ
  seen : at_number ms number ≡ Some m
  is_marked_so : is_marked ks number ≡ true
  may : may_remove p name m.class ≡ true

is_taken : (p : Policy) (name : LoginName) (ks : List ℕ) (ms : List Message) (m : Message) → In m (to_remove class_of p name ks ms) → IsTaken p name ks ms m
is_taken p name ks ms m h =
    let a = in_filter (λ (x : Message). may_remove p name x.class) (map (λ (row : ℕ × Message). row.1) (marked ks ms)) m h in
    let b = in_map (λ (row : ℕ × Message). row.1) (marked ks ms) m a.0 in
    let c = in_filter (λ (row : ℕ × Message). is_marked ks row.0) (numbered ms) b.0 b.1 in
    let d = numbered_at 1 ms b.0 c.0 in
    let f = d.1 in
    let e : b.0.0 ≡ suc d.0 = omega arith in
    record {
      number = suc d.0;
      seen = d.2 ∙ ap (λ x. Some x) (sym b.2);
      is_marked_so = subst (λ k. is_marked ks k ≡ true) e c.1;
      may = a.1;
    }

by_rule : (p : Policy) (name : LoginName) (class : List ℕ) → may_remove p name class ≡ true → LetsRemove p name class
by_rule p name class h = from (find (matches p.groups name.clerk name.maildrop class to.Remove) p.rules) refl h
  where
    from : (o : Option Rule) → find (matches p.groups name.clerk name.maildrop class to.Remove) p.rules ≡ o → (decision_of o).allowed ≡ true → LetsRemove p name class
    from None e k = absurd (true≢false (sym k))
    from (Some r) e k = record { rule = r; first = e; allowed = k }

quit_is : (r : Result Command LineFault) → is_quit r ≡ true → r ≡ Ok Quit
quit_is (Ok Quit) e = refl
quit_is _ e = absurd (true≢false (sym e))

done_is : (t : Tag) → is_done t ≡ true → t ≡ Done
done_is Done e = refl
done_is _ e = absurd (true≢false (sym e))

in_either : {A : Type 0} (xs ys : List A) (x : A) → In x (xs ++ ys) → In x xs ⊎ In x ys
in_either [] ys x h = inr h
in_either (z ∷ zs) ys x h = ⊎_elim (λ e. inl (inl e)) (λ k. ⊎_elim (λ i. inl (inr i)) (λ i. inr i) (in_either zs ys x k)) h

module _ (B : Records) (H : List (Act × Tag)) (m : Message) where
  abbrev Taken : Act → Tag → Type 0
  Taken a t = IsRemovedBy B (told B H) (entry B a t H) m ⊎ In m (removed B (told B H))

  at_session : (c : ℕ) (x : Cut) → reading x ≡ Ok Quit → (o : Option LoginName) → in_session (told B H) c ≡ o
      → In m (removed_by o (λ (name : LoginName). to_remove class_of (in_force B (told B H)) name (marks (told B H) c) (view B (told B H) c)))
      → IsRemovedBy B (told B H) (entry B (Line c x) Done H) m
  at_session c x r None s h = absurd h
  at_session c x r (Some name) s h =
      let k = is_taken (in_force B (told B H)) name (marks (told B H) c) (view B (told B H) c) m h in
      let l = (session_parts (live (told B H) c) (login (told B H) c) name s).0 in
      record {
        connection = c;
        line = x;
        act = refl;
        quit = r;
        done = refl;
        name = name;
        session = s;
        number = k.number;
        seen = k.seen;
        marked = was_marked B H c name k.number s (subst (λ ks. is_marked ks k.number ≡ true) (marks_are_by_view B H c l) k.is_marked_so);
        allowed = by_rule (in_force B (told B H)) name m.class k.may;
      }

  at_quit : (c : ℕ) (x : Cut) (t : Tag) (b : Bool) → (is_quit (reading x) && is_done t) ≡ b → In m (removed_after (quits_if b c) (taken_on B (told B H)) (removed B (told B H)))
      → Taken (Line c x) t
  at_quit c x t false e h = inr h
  at_quit c x t true e h =
      let p = and_parts (is_quit (reading x)) (is_done t) e in
      ⊎_elim
      (λ i. inr i)
      (λ i. inl (subst (λ (u : Tag). IsRemovedBy B (told B H) (entry B (Line c x) u H) m) (sym (done_is t p.1)) (at_session c x (quit_is (reading x) p.0) (in_session (told B H) c) refl i)))
      (in_either (removed B (told B H)) (taken_on B (told B H) c) m h)

  at_act : (a : Act) (t : Tag) → In m (removed B (entry B a t H ∷ told B H)) → Taken a t
  at_act (Line c x) t h = at_quit c x t (is_quit (reading x) && is_done t) refl h
  at_act (Open c) t h = inr h
  at_act (Gone c) t h = inr h
  at_act (Idle c) t h = inr h
  at_act (Deposit d class id text) t h = inr h
  at_act (Administer command) t h = inr h
  at_act (Restart boot host removals) t h = inr h

pub removed_is_allowed : RemovedIsAllowed
removed_is_allowed B [] m h = absurd h
removed_is_allowed B ((a, t) ∷ H) m h = ⊎_elim (λ r. inl r) (λ i. inr (removed_is_allowed B H m i)) (at_act B H m a t h)

-- ---- how often

same_parts : (a b : Message) → same_message a b ≡ true → (a.maildrop ≡ b.maildrop) × (a.class ≡ b.class) × (a.k ≡ b.k)
same_parts a b h =
    let p = and_parts (bytes_eq a.maildrop b.maildrop && bytes_eq a.class b.class) (a.k == b.k) h in
    let q = and_parts (bytes_eq a.maildrop b.maildrop) (bytes_eq a.class b.class) p.0 in
    ((bytes_eq-Decides a.maildrop b.maildrop).0 q.0, (bytes_eq-Decides a.class b.class).0 q.1, eqb-true a.k b.k p.1)

same_turned : (a b : Message) → same_message a b ≡ true → same_message b a ≡ true
same_turned a b h =
    let p = same_parts a b h in
    let d = (bytes_eq-Decides b.maildrop a.maildrop).1 (sym p.0) in
    let c = (bytes_eq-Decides b.class a.class).1 (sym p.1) in
    let k = eq-eqb b.k a.k (sym p.2) in
    rw (d, c, k) refl

-- two messages of one maildrop and unique-id are among the same
same_among : (m x : Message) (rs : List Message) → same_message m x ≡ true → list_any (same_message m) rs ≡ list_any (same_message x) rs
same_among m x rs h =
    let p = same_parts m x h in
    ap (λ d. list_any (λ (y : Message). bytes_eq d y.maildrop && bytes_eq m.class y.class && m.k == y.k) rs) p.0
    ∙ (ap (λ c. list_any (λ (y : Message). bytes_eq x.maildrop y.maildrop && bytes_eq c y.class && m.k == y.k) rs) p.1
    ∙ ap (λ k. list_any (λ (y : Message). bytes_eq x.maildrop y.maildrop && bytes_eq x.class y.class && k == y.k) rs) p.2)

counted : (a b : Bool) → (a ≡ true → b ≡ true → ⊥) → cond b 1 0 + cond a 1 0 ≡ cond (a || b) 1 0
counted true true h = absurd (h refl refl)
counted true false h = refl
counted false true h = refl
counted false false h = refl

none_more : (a : Bool) → 0 + cond a 1 0 ≡ cond a 1 0
none_more true = refl
none_more false = refl

-- what a QUIT removes wasn't removed before
not_again : (B : Records) (H : List (Act × Tag)) (m : Message) (c : ℕ) → list_any (same_message m) (removed B (told B H)) ≡ true → (o : Option LoginName) → in_session (told B H) c ≡ o
    → list_any (same_message m) (removed_by o (λ (name : LoginName). to_remove class_of (in_force B (told B H)) name (marks (told B H) c) (view B (told B H) c))) ≡ true → ⊥
not_again B H m c h None s k = true≢false (sym k)
not_again B H m c h (Some name) s k =
    let w = any_witness (same_message m) (to_remove class_of (in_force B (told B H)) name (marks (told B H) c) (view B (told B H) c)) k in
    let there = snapshot B H c name s w.0 (removed_seen (in_force B (told B H)) name (marks (told B H) c) (view B (told B H) c) w.0 w.1) in
    true≢false (sym h ∙ (same_among m w.0 (removed B (told B H)) w.2 ∙ there.left))

times_are : (B : Records) (H : List (Act × Tag)) (m : Message) → times_removed B (told B H) m ≡ (if list_any (same_message m) (removed B (told B H)) then 1 else 0)
times_are B [] m = refl
times_are B ((a, t) ∷ H) m = at (times_are B H m) (quits a t)
  where
    at : times_removed B (told B H) m ≡ (if list_any (same_message m) (removed B (told B H)) then 1 else 0) → (o : Option ℕ)
        → (if list_any (same_message m) (removed_after o (taken_on B (told B H)) []) then 1 else 0) + times_removed B (told B H) m ≡
        (if list_any (same_message m) (removed_after o (taken_on B (told B H)) (removed B (told B H))) then 1 else 0)
    at before None = ap (λ k. 0 + k) before ∙ none_more (list_any (same_message m) (removed B (told B H)))
    at before (Some c) =
        ap (λ k. cond (list_any (same_message m) (taken_on B (told B H) c)) 1 0 + k) before
        ∙ (counted (list_any (same_message m) (removed B (told B H))) (list_any (same_message m) (taken_on B (told B H) c))
        (λ h k. not_again B H m c h (in_session (told B H) c) refl k)
        ∙ ap (λ b. cond b 1 0) (sym (list_any-append (same_message m) (removed B (told B H)) (taken_on B (told B H) c))))

-- ---- no two messages that arrived are the same

at_the_end : {A : Type 0} (xs : List A) (x : A) → In x (xs ++ x ∷ [])
at_the_end [] x = inl refl
at_the_end (y ∷ ys) x = inr (at_the_end ys x)

-- a message came with a receipt
abbrev Came : List Receipt → Message → Type 0
Came rs m = (r : Receipt) × In r rs × (is_receipt_for m r ≡ true)

came_in_base : (B : Records) → IsSound B → (m : Message) → In m B.messages → Came B.deposits m
came_in_base B s m i =
    let a = all_in (is_sound_message B) B.messages m s.messages i in
    any_witness (is_receipt_for m) B.deposits
    (and_parts (bytes_eq (kept_form m.text) m.text && nat_lt 0 (octets_of m) && nat_le (octets_of m) most_octets && is_one_of m.maildrop B.maildrops)
    (list_any (is_receipt_for m) B.deposits) a).1

own_receipt : (d class id text : List ℕ) (k : ℕ) → is_receipt_for (message_for d class text k) (receipt_for d class id text k) ≡ true
own_receipt d class id text k = rw (bytes_same d, bytes_same class, eq-eqb k k refl) refl

came_by_act : (a : Act) (s : Said) (ms : List Message) (rs : List Receipt) (m : Message) → (In m ms → Came rs m) → In m (arrivals_after a s ms) → Came (receipts_after a s rs) m
came_by_act (Deposit d class id text) (Answers (New uid)) ms rs m before h = ⊎_elim
    (λ i. let r = before i in (r.0, in_front rs (receipt_for d class id (kept_form text) uid.k ∷ []) r.0 r.1, r.2))
    (λ (e : m ≡ message_for d class (kept_form text) uid.k). (
      receipt_for d class id (kept_form text) uid.k,
      at_the_end rs (receipt_for d class id (kept_form text) uid.k),
      ap (λ (x : Message). is_receipt_for x (receipt_for d class id (kept_form text) uid.k)) e ∙ own_receipt d class id (kept_form text) uid.k,
    ))
    (in_last ms (message_for d class (kept_form text) uid.k) m h)
came_by_act _ s ms rs m before h = before h

came : (B : Records) → IsSound B → (H : List (Act × Tag)) (m : Message) → In m (arrivals B (told B H)) → Came (receipts B (told B H)) m
came B s [] m i = came_in_base B s m i
came B s ((a, t) ∷ H) m i = came_by_act a (said_to B (told B H) a t) (arrivals B (told B H)) (receipts B (told B H)) m (came B s H m) i

-- the next number of a class is nobody's
not_same : (rs : List Receipt) (n m : Message) → ((r : Receipt) → In r rs → r.k ≤ class_count r.class (receipts_of r.maildrop rs)) → Came rs m
    → n.k ≡ class_count n.class (receipts_of n.maildrop rs) + 1 → same_message m n ≡ true → ⊥
not_same rs n m few h e t =
    let r = h.0 in
    let p = same_parts m n t in
    let a = and_parts (bytes_eq m.maildrop r.maildrop && bytes_eq m.class r.class) (m.k == r.k) h.2 in
    let b = and_parts (bytes_eq m.maildrop r.maildrop) (bytes_eq m.class r.class) a.0 in
    let d : r.maildrop ≡ n.maildrop = sym ((bytes_eq-Decides m.maildrop r.maildrop).0 b.0) ∙ p.0 in
    let c : r.class ≡ n.class = sym ((bytes_eq-Decides m.class r.class).0 b.1) ∙ p.1 in
    let k : r.k ≡ n.k = sym (eqb-true m.k r.k a.1) ∙ p.2 in
    let l : r.k ≤ class_count n.class (receipts_of n.maildrop rs) =
    subst (λ x. r.k ≤ class_count n.class (receipts_of x rs)) d (subst (λ x. r.k ≤ class_count x (receipts_of r.maildrop rs)) c (few r h.1)) in
    omega arith

in_laws : {A : Type 0} (xs : List A) (x : A) → lists.In x xs → In x xs
in_laws [] x h = h
in_laws (y ∷ ys) x h = ⊎_elim (λ e. inl e) (λ k. inr (in_laws ys x k)) h

either_way : (b : Bool) → (b ≡ true → ⊥) → b ≡ false
either_way true h = absurd (h refl)
either_way false h = refl

apart_by_act : (B : Records) (s : IsSound B) (H : List (Act × Tag)) (a : Act) (t : Tag) (x : Said) → x ≡ said_to B (told B H) a t → are_distinct same_message (arrivals B (told B H)) ≡ true
    → are_distinct same_message (arrivals_after a x (arrivals B (told B H))) ≡ true
apart_by_act B s H (Deposit d class id text) t (Answers (New uid)) e h =
    let n = message_for d class (kept_form text) uid.k in
    distinct_last same_message (arrivals B (told B H)) n h
    (λ m i. either_way (same_message m n)
    (λ k. not_same (receipts B (told B H)) n m (receipts_numbered B s H).1 (came B s H m (in_laws (arrivals B (told B H)) m i)) (taken B (told B H) d class id text t uid e).number k))
apart_by_act B s H _ t x e h = h

arrivals_apart : (B : Records) → IsSound B → (H : List (Act × Tag)) → are_distinct same_message (arrivals B (told B H)) ≡ true
arrivals_apart B s [] = s.messages_apart
arrivals_apart B s ((a, t) ∷ H) = apart_by_act B s H a t (said_to B (told B H) a t) refl (arrivals_apart B s H)

-- ---- what becomes of each

removed_came : (B : Records) (H : List (Act × Tag)) (m : Message) → WasRemoved B (told B H) m → In m (arrivals B (told B H))
removed_came B [] m h = absurd h
removed_came B ((a, t) ∷ H) m h =
    arrivals_stay a (said_to B (told B H) a t) (arrivals B (told B H)) m (⊎_elim (λ r. seen r) (λ k. removed_came B H m k) h)
  where
    number_in : {A : Type 0} (xs : List A) (n : ℕ) (x : A) → slice_get xs n ≡ Some x → In x xs
    number_in [] n x e = absurd (no_some x e)
    number_in (y ∷ ys) zero x e = inl cc
    number_in (y ∷ ys) (suc n) x e = inr (number_in ys n x e)

    numbered_in : {A : Type 0} (xs : List A) (n : ℕ) (x : A) → at_number xs n ≡ Some x → In x xs
    numbered_in xs zero x e = absurd (no_some x e)
    numbered_in xs (suc n) x e = number_in xs n x e

    seen : IsRemovedBy B (told B H) (entry B a t H) m → In m (arrivals B (told B H))
    seen r = (snapshot B H r.connection r.name r.session m (numbered_in (view B (told B H) r.connection) r.number m r.seen)).came

module _ (B : Records) (s : IsSound B) (H : List (Act × Tag)) (m : Message) (i : In m (arrivals B (told B H))) where
  abbrev is_removed : Bool
  is_removed = list_any (same_message m) (removed B (told B H))

  still_there : is_removed ≡ false → IsStillThere B (told B H) m
  still_there e = record {
    there = filter_in (λ (x : Message). not (list_any (same_message x) (removed B (told B H)))) (in_maildrop m.maildrop (arrivals B (told B H))) m
        (filter_in (λ (x : Message). bytes_eq x.maildrop m.maildrop) (arrivals B (told B H)) m i (bytes_same m.maildrop))
        (not_false (list_any (same_message m) (removed B (told B H))) e);
    never = times_are B H m ∙ ap (λ b. cond b 1 0) e;
  }

  gone : is_removed ≡ true → IsGone B (told B H) m
  gone e =
      let w = any_witness (same_message m) (removed B (told B H)) e in
      let by = removed_is_allowed B H w.0 w.1 in
      let same : w.0 ≡ m = sym (same_element same_message same_turned (arrivals B (told B H)) (arrivals_apart B s H) m w.0 i (removed_came B H w.0 by) w.2) in
      record {
        absent = λ k. true≢false (sym e ∙ not_true is_removed
            (in_filter (λ (x : Message). not (list_any (same_message x) (removed B (told B H)))) (in_maildrop m.maildrop (arrivals B (told B H))) m k).1);
        by_quit = subst (λ x. WasRemoved B (told B H) x) same by;
        once = times_are B H m ∙ ap (λ b. cond b 1 0) e;
      }

  becomes : (b : Bool) → is_removed ≡ b → IsStillThere B (told B H) m ⊎ IsGone B (told B H) m
  becomes true e = inr (gone e)
  becomes false e = inl (still_there e)

pub nothing_else_vanishes : NothingElseVanishes
nothing_else_vanishes B s H m i = becomes B s H m i (list_any (same_message m) (removed B (told B H))) refl

-- ---- what is gone stays so

still_arrived : (B : Records) (more H : List (Act × Tag)) (m : Message) → In m (arrivals B (told B H)) → In m (arrivals B (told B (more ++ H)))
still_arrived B [] H m i = i
still_arrived B ((a, t) ∷ more) H m i = arrivals_stay a (said_to B (told B (more ++ H)) a t) (arrivals B (told B (more ++ H))) m (still_arrived B more H m i)

still_counted : (B : Records) (more H : List (Act × Tag)) (m : Message) → 1 ≤ times_removed B (told B H) m → 1 ≤ times_removed B (told B (more ++ H)) m
still_counted B [] H m h = h
still_counted B ((a, t) ∷ more) H m h = let k = still_counted B more H m h in omega arith

pub none_comes_back : NoneComesBack
none_comes_back B s acts later before m e i g = subst (λ xs. IsGone B (told B xs) m) (sym e) (⊎_elim
    (λ (k : IsStillThere B (told B (later ++ before)) m). absurd
    (let o = g.once in let z = k.never in let l = still_counted B later before m (omega arith) in omega arith))
    (λ k. k)
    (nothing_else_vanishes B s (later ++ before) m (still_arrived B later before m i)))
