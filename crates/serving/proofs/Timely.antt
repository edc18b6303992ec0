-- Clients that took too long for their login are ended, and nobody is forgotten early.
use Rattle.vault.specs.declared.vault.Vault.{Ghosts}
use Rattle.std.proofs.Common.{◌≡◌, ℕ, ◌+◌, ◌<◌, ◌≤◌, ◌==◌, ◌&&◌, not, Bool, true, false, List, [], ◌∷◌, ◌++◌, length, take, get_or, refl, sym, ◌∙◌, ap, Some, None, ⊎_elim}
use Rattle.std.proofs.Common.{◌⊎◌, inl, inr, subst, true≢false, append_assoc, eqb-true}
use Rattle.std.proofs.lemmas.Bool.{cases_Bool}
use Rattle.std.proofs.lemmas.List.Elements.{All-nil, All-cons, All-head, All-append, All-weaker, All-more}
use Rattle.vault.specs.Records.{Records}
use Rattle.office.specs.Events.{Log, Trace}
use Rattle.office.specs.Trace.{history, is_open}
use Rattle.office.specs.Sessions.{live}
use Rattle.office.specs.Taken.{trace_of}
use Rattle.office.specs.Stands.{StandsFor}
use Rattle.office.specs.declared.office.Office.{Office}
use Rattle.serving.specs.declared.links.Seat.{Seat}
use Rattle.serving.specs.declared.newcomers.Newcomer.{Newcomer}
use Rattle.serving.specs.Newcomers.{newcomer, others, is_late_by, noted, lies_unread}
use Rattle.serving.specs.Works.{is_late, IsLateGone, AreLateGone}
use Rattle.serving.specs.Parts.{AreNoMoreLate, WasGiven, Giving}
use Rattle.serving.specs.Late.{HasLived, IsEndedInTime, IsShutBy, HasEndedLate}
use Rattle.serving.proofs.Staying.{Fewer}
use Rattle.serving.proofs.Working.{given_then, fewer_gone}
use Rattle.serving.proofs.Seating.{whole_front}
use Rattle.serving.proofs.Late.{others_of, apart, late_gone_one, found_here, found_later}

-- ---- at some point of events

pub lived_left : (B : Records) (L g1 g2 : Log) (c : ℕ) → HasLived B L g1 c → HasLived B L (g2 ++ g1) c
lived_left B L g1 g2 c u = record { later = g2 ++ u.later; front = u.front; is = ap (λ g. g2 ++ g) u.is ∙ sym (append_assoc g2 u.later u.front); lived = u.lived }

pub lived_right : (B : Records) (L g1 g2 : Log) (c : ℕ) → HasLived B (g1 ++ L) g2 c → HasLived B L (g2 ++ g1) c
lived_right B L g1 g2 c u = record {
  later = u.later;
  front = u.front ++ g1;
  is = ap (λ g. g ++ g1) u.is ∙ append_assoc u.later u.front g1;
  lived = subst (λ l. live (history (trace_of B l)) c ≡ true) (sym (append_assoc u.front g1 L)) u.lived;
}

lived_now : (B : Records) (L : Log) (c : ℕ) → live (history (trace_of B L)) c ≡ true → HasLived B L [] c
lived_now B L c h = record { later = []; front = []; is = refl; lived = h }

-- or a login of it lies unread
ended_left : (B : Records) (L g1 g2 : Log) (xs : List Newcomer) (c : ℕ) → HasLived B L g1 c ⊎ (lies_unread (newcomer c xs) ≡ true) → HasLived B L (g2 ++ g1) c ⊎ (lies_unread (newcomer c xs) ≡ true)
ended_left B L g1 g2 xs c (inl u) = inl (lived_left B L g1 g2 c u)
ended_left B L g1 g2 xs c (inr h) = inr h

ended_right : (B : Records) (L g1 g2 : Log) (xs ys : List Newcomer) (c : ℕ) → newcomer c ys ≡ newcomer c xs
    → HasLived B (g1 ++ L) g2 c ⊎ (lies_unread (newcomer c ys) ≡ true) → HasLived B L (g2 ++ g1) c ⊎ (lies_unread (newcomer c xs) ≡ true)
ended_right B L g1 g2 xs ys c e (inl u) = inl (lived_right B L g1 g2 c u)
ended_right B L g1 g2 xs ys c e (inr h) = inr (ap lies_unread (sym e) ∙ h)

-- ---- who is late

never_late : (now seconds : ℕ) (xs : List Newcomer) (c : ℕ) → (seconds == 0) ≡ true → is_late now seconds xs c ≡ true → ⊥
never_late now seconds xs c off h = let k : is_late now seconds xs c ≡ false = ap (λ b. not b && is_late_by now seconds (newcomer c xs)) off in true≢false (sym h ∙ k)

and_false : (b : Bool) → (b && false) ≡ false
and_false true = refl
and_false false = refl

pub prompt_so : (now seconds : ℕ) (xs : List Newcomer) (c : ℕ) → is_late_by now seconds (newcomer c xs) ≡ false → is_late now seconds xs c ≡ false
prompt_so now seconds xs c h = ap (λ b. not (seconds == 0) && b) h ∙ and_false (not (seconds == 0))

-- by who is noted
late_same : (now seconds : ℕ) (xs ys : List Newcomer) (c : ℕ) → newcomer c ys ≡ newcomer c xs → is_late now seconds xs c ≡ true → is_late now seconds ys c ≡ true
late_same now seconds xs ys c e h = ap (λ n. not (seconds == 0) && is_late_by now seconds n) e ∙ h

-- who is noted stays so after others
pub found_first : (c : ℕ) (n : Newcomer) (xs ys : List Newcomer) → newcomer c xs ≡ Some n → newcomer c (xs ++ ys) ≡ Some n
found_first c n [] ys h = cc
found_first c n (x ∷ xs) ys h =
    ⊎_elim
    (λ (e : (x.connection == c) ≡ true). found_here c x (xs ++ ys) e ∙ (sym (found_here c x xs e) ∙ h))
    (λ (e : (x.connection == c) ≡ false). found_later c x (xs ++ ys) e ∙ found_first c n xs ys (sym (found_later c x xs e) ∙ h))
    (cases_Bool (x.connection == c))

pub found_noted : (b : Bool) (connection now : ℕ) (xs ys : List Newcomer) → ys ≡ noted b connection now xs → (c : ℕ) (n : Newcomer) → newcomer c xs ≡ Some n → newcomer c ys ≡ Some n
found_noted false connection now xs ys is c n h = ap (newcomer c) is ∙ h
found_noted true connection now xs ys is c n h = ap (newcomer c) is ∙ found_first c n xs (record { connection = connection; since = now; held = None } ∷ []) h

-- ---- one client

module _ {V : Type 0} (vault : Ghosts V) (now seconds : ℕ) where
  pub late_none : (o : Office V) (xs : List Newcomer) → HasEndedLate vault.holds vault.is_clean o o now seconds xs xs [] []
  late_none o xs = record {
    gone = All-nil (IsLateGone now seconds xs);
    each = λ B L s k. All-nil (IsEndedInTime now seconds xs B L [] (trace_of B L));
    noted = λ B L s k c. inl refl;
  }

  pub late_off : (o : Office V) (xs : List Newcomer) (seats : List Seat) → (seconds == 0) ≡ true → HasEndedLate vault.holds vault.is_clean o o now seconds xs xs seats []
  late_off o xs seats off = record {
    gone = All-nil (IsLateGone now seconds xs);
    each = λ B L s k. λ i d within. λ late here. absurd (never_late now seconds xs (get_or seats i d).connection off late);
    noted = λ B L s k c. inl refl;
  }

  pub late_lived : (o : Office V) (xs ys : List Newcomer) (q : Seat) → ys ≡ others q.connection xs → ((T : Trace) → StandsFor vault.holds o T → live (history T) q.connection ≡ true)
      → HasEndedLate vault.holds vault.is_clean o o now seconds xs ys (q ∷ []) []
  late_lived o xs ys q is lives = record {
    gone = All-nil (IsLateGone now seconds xs);
    each = λ B L s k.
        All-cons (IsEndedInTime now seconds xs B L [] (trace_of B L)) q [] (λ late here. inl (lived_now B L q.connection (lives (trace_of B L) s)))
        (All-nil (IsEndedInTime now seconds xs B L [] (trace_of B L)));
    noted = λ B L s k c.
        ⊎_elim
        (λ (e : (c == q.connection) ≡ true). inr (lived_now B L c (subst (λ n. live (history (trace_of B L)) n ≡ true) (sym (eqb-true c q.connection e)) (lives (trace_of B L) s))))
        (λ (e : (c == q.connection) ≡ false). inl (ap (newcomer c) is ∙ others_of c q.connection xs (λ f. apart c q.connection e f)))
        (cases_Bool (c == q.connection));
  }

  pub late_prompt : (o : Office V) (xs : List Newcomer) (q : Seat) → is_late now seconds xs q.connection ≡ false → HasEndedLate vault.holds vault.is_clean o o now seconds xs xs (q ∷ []) []
  late_prompt o xs q h = record {
    gone = All-nil (IsLateGone now seconds xs);
    each = λ B L s k.
        All-cons (IsEndedInTime now seconds xs B L [] (trace_of B L)) q [] (λ late here. absurd (true≢false (sym late ∙ h))) (All-nil (IsEndedInTime now seconds xs B L [] (trace_of B L)));
    noted = λ B L s k c. inl refl;
  }

  -- a login of it lies unread
  pub late_unread : (o : Office V) (xs : List Newcomer) (q : Seat) → lies_unread (newcomer q.connection xs) ≡ true → HasEndedLate vault.holds vault.is_clean o o now seconds xs xs (q ∷ []) []
  late_unread o xs q h = record {
    gone = All-nil (IsLateGone now seconds xs);
    each = λ B L s k.
        All-cons (IsEndedInTime now seconds xs B L [] (trace_of B L)) q [] (λ late here. inr h) (All-nil (IsEndedInTime now seconds xs B L [] (trace_of B L)));
    noted = λ B L s k c. inl refl;
  }

  pub late_shut : (o o1 : Office V) (xs : List Newcomer) (q : Seat) (g : Log) → AreLateGone now seconds xs g
      → IsShutBy vault.holds vault.is_clean o o1 q.connection g → HasEndedLate vault.holds vault.is_clean o o1 now seconds xs xs (q ∷ []) g
  late_shut o o1 xs q g gone shut = record {
    gone = gone;
    each = λ B L s k.
        All-cons (IsEndedInTime now seconds xs B L g (trace_of B (g ++ L))) q [] (λ late here. absurd (true≢false (sym here ∙ shut B L s k)))
        (All-nil (IsEndedInTime now seconds xs B L g (trace_of B (g ++ L))));
    noted = λ B L s k c. inl refl;
  }

  -- ---- one after the other

  pub late_more : (o o1 o2 : Office V) (xs ys zs : List Newcomer) (seats cur : List Seat) (i : ℕ) (d : Seat) (g1 g2 : Log) → cur ≡ seats → i < length cur → AreNoMoreLate now seconds xs ys
      → WasGiven vault o o1 g1 → WasGiven vault o1 o2 g2
      → HasEndedLate vault.holds vault.is_clean o o1 now seconds xs ys (take i seats) g1 → HasEndedLate vault.holds vault.is_clean o1 o2 now seconds ys zs (get_or cur i d ∷ []) g2
      → HasEndedLate vault.holds vault.is_clean o o2 now seconds xs zs (take (i + 1) seats) (g2 ++ g1)
  late_more o o1 o2 xs ys zs seats cur i d g1 g2 is within less wa wb a at_cur =
      let h : i < length seats = subst (λ v. i < length v) is within in
      let b = subst (λ v. HasEndedLate vault.holds vault.is_clean o1 o2 now seconds ys zs (get_or v i d ∷ []) g2) is at_cur in
      record {
        gone = All-append (IsLateGone now seconds xs) g2 g1 (All-weaker (IsLateGone now seconds ys) (IsLateGone now seconds xs) (late_gone_one now seconds xs ys less) g2 b.gone) a.gone;
        each = λ B L s k.
            (let s1 = wa.stands B L s (wb.clean k) in
            let after = trace_of B ((g2 ++ g1) ++ L) in
            let P = IsEndedInTime now seconds xs B L (g2 ++ g1) after in
            let q = get_or seats i d in
            let fewer : Fewer B (g1 ++ L) (g2 ++ (g1 ++ L)) = fewer_gone B (g1 ++ L) g2 now seconds ys (wb.admitted B (g1 ++ L) s1 k) b.gone in
            let same : (c : ℕ) → is_open after c ≡ true → is_open (trace_of B (g2 ++ (g1 ++ L))) c ≡ true = λ c o. subst (λ l. is_open (trace_of B l) c ≡ true) (append_assoc g2 g1 L) o in
            All-more P seats i d h
            (All-weaker (IsEndedInTime now seconds xs B L g1 (trace_of B (g1 ++ L))) P
            (λ r t late here. ended_left B L g1 g2 xs r.connection (t late (fewer r.connection (same r.connection here)))) (take i seats) (a.each B L s (wb.clean k)))
            (λ late here.
            ⊎_elim
            (λ (e : newcomer q.connection ys ≡ newcomer q.connection xs).
            ended_right B L g1 g2 xs ys q.connection e
            (All-head (IsEndedInTime now seconds ys B (g1 ++ L) g2 (trace_of B (g2 ++ (g1 ++ L)))) q [] (b.each B (g1 ++ L) s1 k)
            (late_same now seconds xs ys q.connection e late) (same q.connection here)))
            (λ (u : HasLived B L g1 q.connection). inl (lived_left B L g1 g2 q.connection u))
            (a.noted B L s (wb.clean k) q.connection)));
        noted = λ B L s k c.
            ⊎_elim
            (λ (e1 : newcomer c ys ≡ newcomer c xs).
            ⊎_elim
            (λ (e2 : newcomer c zs ≡ newcomer c ys). inl (e2 ∙ e1))
            (λ (u : HasLived B (g1 ++ L) g2 c). inr (lived_right B L g1 g2 c u))
            (b.noted B (g1 ++ L) (wa.stands B L s (wb.clean k)) k c))
            (λ (u : HasLived B L g1 c). inr (lived_left B L g1 g2 c u))
            (a.noted B L s (wb.clean k) c);
      }

  pub late_step : (o o1 o2 : Office V) (xs ys zs : List Newcomer) (seats cur : List Seat) (i : ℕ) (d : Seat) (M N K : Log → Type 0) → cur ≡ seats → i < length cur → AreNoMoreLate now seconds xs ys
      → ((g1 g2 : Log) → M g1 → N g2 → K (g2 ++ g1))
      → Giving vault o o1 (λ g. HasEndedLate vault.holds vault.is_clean o o1 now seconds xs ys (take i seats) g × M g)
      → Giving vault o1 o2 (λ g. ((e : Seat) → HasEndedLate vault.holds vault.is_clean o1 o2 now seconds ys zs (get_or cur i e ∷ []) g) × N g)
      → Giving vault o o2 (λ g. HasEndedLate vault.holds vault.is_clean o o2 now seconds xs zs (take (i + 1) seats) g × K g)
  late_step o o1 o2 xs ys zs seats cur i d M N K is within less join a b = record {
    given = b.given ++ a.given;
    was_given = given_then vault o o1 o2 a.given b.given a.was_given b.was_given;
    facts = (late_more o o1 o2 xs ys zs seats cur i d a.given b.given is within less a.was_given b.was_given a.facts.0 (b.facts.0 d), join a.given b.given a.facts.1 b.facts.1);
  }

  pub late_whole : (o o1 : Office V) (xs ys : List Newcomer) (seats cur : List Seat) (n : ℕ) (M : Log → Type 0) → cur ≡ seats → length cur ≤ n
      → Giving vault o o1 (λ g. HasEndedLate vault.holds vault.is_clean o o1 now seconds xs ys (take n seats) g × M g)
      → Giving vault o o1 (λ g. HasEndedLate vault.holds vault.is_clean o o1 now seconds xs ys seats g × M g)
  late_whole o o1 xs ys seats cur n M is h a =
      let k : length seats ≤ n = subst (λ v. length v ≤ n) is h in
      subst (λ v. Giving vault o o1 (λ g. HasEndedLate vault.holds vault.is_clean o o1 now seconds xs ys v g × M g)) (whole_front seats n k) a

-- who went was late before, and what else is known of it by that
pub late_both : {V : Type 0} (vault : Ghosts V) (now seconds seconds0 : ℕ)
    (xs ys zs : List Newcomer) (seats : List Seat) (o o1 : Office V) (M K : Log → Type 0) → seconds ≡ seconds0 → AreNoMoreLate now seconds0 xs ys
    → ((g : Log) → M g → K g)
    → Giving vault o o1 (λ g. HasEndedLate vault.holds vault.is_clean o o1 now seconds ys zs seats g × M g)
    → Giving vault o o1 (λ g. AreLateGone now seconds0 xs g × HasEndedLate vault.holds vault.is_clean o o1 now seconds0 ys zs seats g × K g)
late_both vault now seconds seconds0 xs ys zs seats o o1 M K is less more a =
    let b = subst (λ n. Giving vault o o1 (λ g. HasEndedLate vault.holds vault.is_clean o o1 now n ys zs seats g × M g)) is a in
    record {
      given = b.given;
      was_given = b.was_given;
      facts = (All-weaker (IsLateGone now seconds0 ys) (IsLateGone now seconds0 xs) (late_gone_one now seconds0 xs ys less) b.given b.facts.0.gone, b.facts.0, more b.given b.facts.1);
    }
