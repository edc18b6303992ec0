-- A tick: which connections end, and what is left of the connections, the locks and what the trace says.
use Rattle.std.proofs.Common.{◌≡◌, ℕ, zero, suc, ◌+◌, ◌<◌, ◌≤◌, Bool, true, false, not, ◌&&◌, ◌||◌, cond, List, [], ◌∷◌, ◌++◌, filter, refl, sym, ◌∙◌, ap, subst, true≢false, arith}
use Rattle.std.proofs.Common.{append_assoc, Option, Some, None, IsSome, is_some, eqb, eqb-true, ⊎_elim, nat_cmp, nat_le, max, string_bytes}
use Rattle.std.proofs.lemmas.Bool.{cases_Bool, eqb-false}
use Rattle.std.proofs.lemmas.Bool.Decides.{nat_tests}
use Rattle.std.proofs.lemmas.Cmp.{eq_by_cmp_equiv, nat_cmp_total, nat_list_cmp_total}
use Rattle.std.proofs.lemmas.Map.Entries.{lookup-filter-values, option_filter}
use Rattle.std.proofs.lemmas.Map.Keys.{IsDistinct-from_sorted}
use Rattle.std.proofs.lemmas.Map.Made.{is_member-filter}
use Rattle.std.specs.BTreeMap.{BTreeMap, get, is_at, IsOrdered}
use Rattle.std.specs.Cmp.{nat_eq_equiv}
use Rattle.std.specs.List.{range_with_len}
use Rattle.std.specs.Map.{lookup}
use Rattle.std.specs.Set.{is_member}
use Rattle.vault.specs.Records.{Records}
use Rattle.vault.specs.Changes.{Contents}
use Rattle.office.specs.History.{Act, Idle, Tag, Done}
use Rattle.office.specs.Sessions.{holds, holder, records, is_login_to}
use Rattle.office.specs.Told.{told}
use Rattle.office.specs.Events.{Limits, Trace, Tagged, given}
use Rattle.office.specs.Events as event
use Rattle.office.specs.Log.{opened, clock, idle_seconds, moment, stream, taken}
use Rattle.office.specs.Trace.{acts, history, idle_acts, idle_numbers, is_open, open_numbers_at}
use Rattle.office.specs.Answered.{name_cmp}
use Rattle.office.specs.Kept.{Kept}
use Rattle.office.specs.Idle.{is_idle, unless_idle, lock_of_kept}
use Rattle.office.specs.Stands.{seen, IsOver, IsKeptFor, Matches, StandsFor}
use Rattle.office.specs.declared.office.Office.{Office}
use Rattle.office.proofs.Events.{Facts, facts, Whole, whole, seen_by}
use Rattle.office.proofs.Laws.{one_holder}
use Rattle.office.proofs.Locked.{IsLock, lock_found, holder_is}
use Rattle.office.proofs.Standing.{counters}
use Rattle.office.proofs.Beginning.{begins_on, begun_on}
use Rattle.office.proofs.SmallLemmas.{and_false}

-- ---- the maps

link_filter : (moment seconds : ℕ) (o : Option Kept) → option_filter (λ k. not (is_idle moment seconds k)) o ≡ unless_idle moment seconds o
link_filter m s None = refl
link_filter m s (Some k) = at (is_idle m s k)
  where
    at : (b : Bool) → cond (not b) (Some k) None ≡ cond b None (Some k)
    at true = refl
    at false = refl

-- the connections that stay are those that aren't idle
pub kept_links : (moment seconds : ℕ) (connections : BTreeMap ℕ Kept) → IsOrdered nat_cmp connections → (c : ℕ)
    → lookup (is_at (nat_cmp c)) (filter (λ p. not (is_idle moment seconds p.1)) connections.entries) ≡ unless_idle moment seconds (get nat_cmp connections c)
kept_links m s connections ordered c =
    lookup-filter-values (eq_by_cmp_equiv nat_cmp_total) (λ k. not (is_idle m s k)) c connections.entries (IsDistinct-from_sorted nat_cmp _ ordered)
    ∙ link_filter m s (get nat_cmp connections c)

lock_filter : (connections : BTreeMap ℕ Kept) (o : Option ℕ) → option_filter (λ c. is_some (get nat_cmp connections c)) o ≡ lock_of_kept connections o
lock_filter connections None = refl
lock_filter connections (Some c) = refl

-- the locks that stay are those whose holder is still there
pub kept_locks : (connections : BTreeMap ℕ Kept) (locks : BTreeMap (List ℕ) ℕ) → IsOrdered name_cmp locks → (d : List ℕ)
    → lookup (is_at (name_cmp d)) (filter (λ p. is_some (get nat_cmp connections p.1)) locks.entries) ≡ lock_of_kept connections (get name_cmp locks d)
kept_locks connections locks ordered d =
    lookup-filter-values (eq_by_cmp_equiv nat_list_cmp_total) (λ c. is_some (get nat_cmp connections c)) d locks.entries (IsDistinct-from_sorted name_cmp _ ordered)
    ∙ lock_filter connections (get name_cmp locks d)

-- ---- what the trace says

-- a number is among these
abbrev among : List ℕ → ℕ → Bool
among ns q = is_member eqb ns q

-- what is said of a connection, if it is ended
abbrev ended : Bool → Facts → Facts
ended true f = record f { connected = false; live = false }
ended false f = f

eqb_sym : (a b : ℕ) → eqb a b ≡ eqb b a
eqb_sym a b = grind (arith, nat_tests)

module _ (B : Records) where
  one_ended : (H : List (Act × Tag)) (c q : ℕ) (b : Bool) → eqb c q ≡ b → facts B ((Idle c, Done) ∷ H) q ≡ ended b (facts B H q)
  one_ended H c q true e = rw e refl
  one_ended H c q false e = rw e refl

  both_ended : (a b : Bool) (f : Facts) → ended a (ended b f) ≡ ended (b || a) f
  both_ended true true f = refl
  both_ended true false f = refl
  both_ended false true f = refl
  both_ended false false f = refl

  -- the connections of these numbers are ended, and nothing else is said of any
  facts-idle : (ns : List ℕ) (H : List (Act × Tag)) (q : ℕ) → facts B (idle_acts ns ++ H) q ≡ ended (among ns q) (facts B H q)
  facts-idle [] H q = refl
  facts-idle (c ∷ ns) H q =
      ap (λ A. facts B A q) (append_assoc (idle_acts ns) ((Idle c, Done) ∷ []) H)
      ∙ (facts-idle ns ((Idle c, Done) ∷ H) q
      ∙ (ap (ended (among ns q)) (one_ended H c q (eqb q c) (eqb_sym c q))
      ∙ both_ended (among ns q) (eqb q c) (facts B H q)))

  -- what one ended connection doesn't change, none of them does
  unchanged : {X : Type 0} (f : List (Act × Tag) → X) → ((c : ℕ) (H : List (Act × Tag)) → f ((Idle c, Done) ∷ H) ≡ f H) → (ns : List ℕ) (H : List (Act × Tag)) → f (idle_acts ns ++ H) ≡ f H
  unchanged f one [] H = refl
  unchanged f one (c ∷ ns) H = ap f (append_assoc (idle_acts ns) ((Idle c, Done) ∷ []) H) ∙ (unchanged f one ns ((Idle c, Done) ∷ H) ∙ one c H)

  whole-idle : (ns : List ℕ) (H : List (Act × Tag)) → whole B (idle_acts ns ++ H) ≡ whole B H
  whole-idle ns H = unchanged (whole B) (λ c G. refl) ns H

  records-idle : (ns : List ℕ) (H : List (Act × Tag)) → records B (told B (idle_acts ns ++ H)) ≡ records B (told B H)
  records-idle ns H = unchanged (λ A. records B (told B A)) (λ c G. refl) ns H

  -- ---- who holds a maildrop

  held_yet : (b : Bool) (f : Facts) (d : List ℕ) → (((ended b f).live) && is_login_to d ((ended b f).login)) ≡ (not b && (f.live && is_login_to d f.login))
  held_yet true f d = refl
  held_yet false f d = refl

  holds-idle : (ns : List ℕ) (H : List (Act × Tag)) (d : List ℕ) (q : ℕ) → holds (told B (idle_acts ns ++ H)) d q ≡ (not (among ns q) && holds (told B H) d q)
  holds-idle ns H d q = ap (λ (f : Facts). f.live && is_login_to d f.login) (facts-idle ns H q) ∙ held_yet (among ns q) (facts B H q) d

  -- the maildrops of the ended connections are let go, and no other
  module _ (ns : List ℕ) (H : List (Act × Tag)) (connections : BTreeMap ℕ Kept)
      (gone : (q : ℕ) → among ns q ≡ true → get nat_cmp connections q ≡ None)
      (there : (d : List ℕ) (q : ℕ) → holds (told B H) d q ≡ true → among ns q ≡ false → is_some (get nat_cmp connections q) ≡ true) where
    none_held : (d : List ℕ) (c q : ℕ) → holds (told B H) d c ≡ true → among ns c ≡ true → (b : Bool) → holds (told B H) d q ≡ b → (not (among ns q) && b) ≡ false
    none_held d c q h e true k = let n = subst (λ x. among ns x ≡ true) (one_holder B H d c q h k) e in rw n refl
    none_held d c q h e false k = and_false (not (among ns q))

    lock_of : (d : List ℕ) (o : Option ℕ) → holder (told B H) d ≡ o → IsLock (told B (idle_acts ns ++ H)) d (lock_of_kept connections o)
    lock_of d None e = let free = lock_found B H d None e in λ q. holds-idle ns H d q ∙ (ap (λ b. not (among ns q) && b) (free q) ∙ and_false (not (among ns q)))
    lock_of d (Some c) e = at (among ns c) refl
      where
        held : holds (told B H) d c ≡ true
        held = lock_found B H d (Some c) e

        at : (b : Bool) → among ns c ≡ b → IsLock (told B (idle_acts ns ++ H)) d (lock_of_kept connections (Some c))
        at true k = let none = gone c k in rw none (λ q. holds-idle ns H d q ∙ none_held d c q held k (holds (told B H) d q) refl)
        at false k = let some = there d c held k in rw some (holds-idle ns H d c ∙ (ap (λ b. not b && holds (told B H) d c) k ∙ held))

    pub locks-idle : (d : List ℕ) → lock_of_kept connections (holder (told B H) d) ≡ holder (told B (idle_acts ns ++ H)) d
    locks-idle d = sym (holder_is B (idle_acts ns ++ H) d (lock_of_kept connections (holder (told B H) d)) (lock_of d (holder (told B H) d) refl))

-- ---- the numbers that are idle

in_range : (n a q : ℕ) → a ≤ q → q < a + n → among (range_with_len a n) q ≡ true
in_range zero a q low high = absurd (omega (arith, low, high))
in_range (suc n) a q low high = ⊎_elim
    (λ (e : eqb q a ≡ true). rw e refl)
    (λ (e : eqb q a ≡ false). let ne = eqb-false q a e in rw e (in_range n (a + 1) q (omega (arith, low, ne)) (omega (arith, high))))
    (cases_Bool (eqb q a))

module _ (T : Trace) (now : ℕ) where
  abbrev now_idle : List ℕ
  now_idle = idle_numbers T.log (history T) now

  among_idle : (q : ℕ) → among now_idle q ≡ ((among (range_with_len 1 (opened T.log)) q && is_open T q) && nat_le (clock T.log q + idle_seconds T.log) now)
  among_idle q =
      is_member-filter nat_eq_equiv (λ c. nat_le (clock T.log c + idle_seconds T.log) now) q
      (λ x e. ap (λ c. nat_le (clock T.log c + idle_seconds T.log) now) (eqb-true q x e)) (open_numbers_at T.log (history T))
      ∙ ap (λ b. b && nat_le (clock T.log q + idle_seconds T.log) now) (is_member-filter nat_eq_equiv (is_open T) q (λ x e. ap (is_open T) (eqb-true q x e)) (range_with_len 1 (opened T.log)))

  closed_idle : (q : ℕ) → is_open T q ≡ false → among now_idle q ≡ false
  closed_idle q e = let n = and_false (among (range_with_len 1 (opened T.log)) q) in among_idle q ∙ rw (e, n) refl

  open_idle : (q : ℕ) → is_open T q ≡ true → 1 ≤ q → q ≤ opened T.log → among now_idle q ≡ nat_le (clock T.log q + idle_seconds T.log) now
  open_idle q e low high = let r = in_range (opened T.log) 1 q low (omega (arith, high)) in among_idle q ∙ rw (r, e) refl

-- ---- the office after a tick

module _ {V : Type 0} (Holds : V → Contents → Type 0) (o o' : Office V) (T : Trace) (t : ℕ) (st : StandsFor Holds o T) where
  abbrev ticked : Trace
  ticked = given T (event.Tick t) (Tagged Done)

  abbrev idle_now : List ℕ
  idle_now = now_idle T (max (moment T.log) t)

  -- what is said of it, with the events' part of it
  seen-tick : (q : ℕ) (b : Bool) → among idle_now q ≡ b → seen ticked q ≡ seen_by (stream T.log q) (taken T.log q) (clock T.log q) (ended b (facts T.base (acts T) q))
  seen-tick q b e = ap (seen_by (stream T.log q) (taken T.log q) (clock T.log q)) (facts-idle T.base idle_now (acts T) q ∙ ap (λ b. ended b (facts T.base (acts T) q)) e)

  over_still : (q : ℕ) → IsOver (seen T q) → IsOver (seen ticked q)
  over_still q h = rw (seen-tick q false (closed_idle T (max (moment T.log) t) q h.closed)) h

  over_now : (q : ℕ) → among idle_now q ≡ true → IsOver (seen ticked q)
  over_now q e = rw (seen-tick q true e) (record { closed = refl; authorization = refl })

  -- a kept connection is among the idle ones by what is kept of it
  idle_kept : (q : ℕ) (k : Kept) → get nat_cmp o.connections q ≡ Some k → Matches st.keeps.contents (seen T q) k → among idle_now q ≡ is_idle (max o.moment t) o.limits.idle k
  idle_kept q k found m =
      let fits = st.numbered q (rw found refl) in
      open_idle T (max (moment T.log) t) q m.opened fits.0 fits.1
      ∙ (ap (λ c. nat_le (c + idle_seconds T.log) (max (moment T.log) t)) (sym m.clock)
      ∙ (ap (λ s. nat_le (k.clock + s) (max (moment T.log) t)) (sym (ap (λ (x : Limits). x.idle) st.limits)) ∙ ap (λ n. nat_le (k.clock + o.limits.idle) (max n t)) (sym st.moment)))

  kept_ticked : (q : ℕ) (l : Option Kept) → get nat_cmp o.connections q ≡ l → IsKeptFor st.keeps.contents (seen T q) l
      → IsKeptFor st.keeps.contents (seen ticked q) (unless_idle (max o.moment t) o.limits.idle l)
  kept_ticked q None found h = over_still q h
  kept_ticked q (Some k) found m = at (is_idle (max o.moment t) o.limits.idle k) (idle_kept q k found m)
    where
      at : (b : Bool) → among idle_now q ≡ b → IsKeptFor st.keeps.contents (seen ticked q) (cond b None (Some k))
      at true e = over_now q e
      at false e = rw (seen-tick q false e) m

  module _ (connections : (q : ℕ) → get nat_cmp o'.connections q ≡ unless_idle (max o.moment t) o.limits.idle (get nat_cmp o.connections q)) where
    -- what is no more was there
    was_kept : (q : ℕ) (l : Option Kept) → IsSome (unless_idle (max o.moment t) o.limits.idle l) → IsSome l
    was_kept q None h = h
    was_kept q (Some k) h = refl

    gone_link : (q : ℕ) (l : Option Kept) → get nat_cmp o.connections q ≡ l → IsKeptFor st.keeps.contents (seen T q) l → among idle_now q ≡ true → unless_idle (max o.moment t) o.limits.idle l ≡ None
    gone_link q None found h e = refl
    gone_link q (Some k) found m e = let b : is_idle (max o.moment t) o.limits.idle k ≡ true = sym (idle_kept q k found m) ∙ e in ap (λ b. cond b None (Some k)) b

    live_link : (d : List ℕ) (q : ℕ) (l : Option Kept) → get nat_cmp o.connections q ≡ l → IsKeptFor st.keeps.contents (seen T q) l → holds (history T) d q ≡ true → among idle_now q ≡ false
        → is_some (unless_idle (max o.moment t) o.limits.idle l) ≡ true
    live_link d q None found h held e = let out = h.authorization in absurd (true≢false (sym (rw out at held)))
    live_link d q (Some k) found m held e = let b : is_idle (max o.moment t) o.limits.idle k ≡ false = sym (idle_kept q k found m) ∙ e in ap (λ b. is_some (cond b None (Some k))) b

    pub tick_stands : ((k : Contents) → Holds o.vault k → Holds o'.vault k) → o'.policy ≡ o.policy → o'.boot ≡ o.boot → string_bytes o'.host ≡ string_bytes o.host → o'.limits ≡ o.limits
        → counters o' ≡ (o.opened, max o.moment t) → ((d : List ℕ) → get name_cmp o'.locks d ≡ lock_of_kept o'.connections (get name_cmp o.locks d)) → StandsFor Holds o' ticked
    tick_stands on p b s l n locks =
        let same : whole T.base (acts ticked) ≡ whole T.base (acts T) = whole-idle T.base idle_now (acts T) in
        record {
          keeps = record {
            contents = st.keeps.contents;
            held = on st.keeps.contents st.keeps.held;
            agree = rw
                (records-idle T.base idle_now (acts T)) st.keeps.agree;
            sound = st.keeps.sound;
            formed = st.keeps.formed;
            began = begun_on (event.Tick t) (Tagged Done) T.log st.began;
          };
          began = begins_on (event.Tick t) (Tagged Done) T.log st.began;
          policy = p ∙ (st.policy ∙ ap (λ (w : Whole). w.rules) (sym same));
          boot = b ∙ (st.boot ∙ ap (λ (w : Whole). w.office.0) (sym same));
          host = s ∙ (st.host ∙ ap (λ (w : Whole). w.office.1) (sym same));
          judged = ap (λ (x : Limits). x.removals) l ∙ (st.judged ∙ ap (λ (w : Whole). w.office.2) (sym same));
          limits = l ∙ st.limits;
          moment = ap (λ (x : ℕ × ℕ). x.1) n ∙ ap (λ m. max m t) st.moment;
          numbered = λ q some. st.numbered q (was_kept q (get nat_cmp o.connections q) (rw (connections q) at some));
          opened = ap (λ (x : ℕ × ℕ). x.0) n ∙ st.opened;
          connections = λ q. rw (connections q) (kept_ticked q (get nat_cmp o.connections q) refl (st.connections q));
          locks = λ d. locks d ∙ (ap (lock_of_kept o'.connections) (st.locks d) ∙ locks-idle T.base idle_now (acts T) o'.connections
              (λ q e. connections q ∙ gone_link q (get nat_cmp o.connections q) refl (st.connections q) e)
              (λ d q held e. ap is_some (connections q) ∙ live_link d q (get nat_cmp o.connections q) refl (st.connections q) held e) d);
        }
