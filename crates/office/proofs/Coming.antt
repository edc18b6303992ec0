-- Connections that come, locks that are let go, and events that nothing comes of.
use Rattle.std.proofs.Common.{◌≡◌, ℕ, ◌+◌, ◌<◌, ◌≤◌, Bool, true, false, cond, List, [], ◌∷◌, map, refl, sym, ◌∙◌, ap, ap₂, arith, subst, true≢false, Option, Some, None, Result, Ok}
use Rattle.std.proofs.Common.{Err, lt-ltb, le-leb, ◌^◌, eqb, eqb-true, eq-eqb, ⊎_elim, string_bytes, nat_cmp}
use Rattle.std.proofs.lemmas.Bool.{cases_Bool}
use Rattle.std.proofs.lemmas.Bool.Decides.{nat_tests}
use Rattle.std.proofs.lemmas.Map.Text.{is_eq-slice_cmp}
use Rattle.std.specs.Prelude.{is_err, OnOk, OnErr}
use Rattle.std.specs.BTreeMap.{BTreeMap, get, is_at, Updates}
use Rattle.std.specs.Str.{bytes_eq}
use Rattle.creds.specs.Names.{is_host}
use Rattle.popline.specs.Cutting.{cut_of, pieces, prefixed, nothing_held}
use Rattle.popline.specs.Replies.{Greeting, bytes_of, timestamp}
use Rattle.vault.specs.Records.{Records}
use Rattle.vault.specs.Changes.{Contents}
use Rattle.session.specs.Session.{Session}
use Rattle.session.specs.declared.removals.Removals.{Removals}
use Rattle.office.specs.History.{Act, Tag, Done, NoMemory, Entry}
use Rattle.office.specs.Connections.{setting, judging}
use Rattle.office.specs.Sessions.{live, login, holds, holder}
use Rattle.office.specs.Told.{told}
use Rattle.office.specs.Events.{Limits, Event, EventTag, Ignored, Tagged, Trace, given}
use Rattle.office.specs.Events as event
use Rattle.office.specs.Log.{opened, limits_in, moment, stream, taken, clock, next_number}
use Rattle.office.specs.Trace.{acts, history}
use Rattle.office.specs.Formed.{is_formed, are_formed, is_u64}
use Rattle.office.specs.Answered.{name_cmp}
use Rattle.office.specs.declared.output.Source.TheVariants as source
use Rattle.office.specs.Kept.{Kept, nothing_said, maildrop_of}
use Rattle.office.specs.Locks.{Released}
use Rattle.office.specs.Stands.{Seen, seen, seen_at, IsSession, Matches, IsKeptFor, Keeps, StandsFor}
use Rattle.office.specs.declared.office.Office.{Office}
use Rattle.office.proofs.Laws.{one_holder}
use Rattle.office.proofs.Owing.{owes_ready}
use Rattle.office.proofs.Standing.{counters}
use Rattle.office.proofs.Locked.{IsLock, lock_found, holder_is}
use Rattle.office.proofs.Beginning.{begins_on, begun_on, begun_of, begins_anew}

-- ---- locks

module _ (B : Records) (H H' : List (Act × Tag)) where
  lock_alike : (d : List ℕ) (o : Option ℕ) → ((q : ℕ) → holds (told B H') d q ≡ holds (told B H) d q) → IsLock (told B H) d o → IsLock (told B H') d o
  lock_alike d None same h = λ q. same q ∙ h q
  lock_alike d (Some q) same h = same q ∙ h

  -- who holds a maildrop is found, whatever else was done
  pub same_holder : (d : List ℕ) → ((q : ℕ) → holds (told B H') d q ≡ holds (told B H) d q) → holder (told B H') d ≡ holder (told B H) d
  same_holder d same = holder_is B H' d (holder (told B H) d) (lock_alike d (holder (told B H) d) same (lock_found B H d (holder (told B H) d) refl))

  -- one connection holds nothing any more, and the others what they held
  module _ (c : ℕ) (others : (d : List ℕ) (q : ℕ) → eqb c q ≡ false → holds (told B H') d q ≡ holds (told B H) d q) (none : (d : List ℕ) → holds (told B H') d c ≡ false) where
    pub still_held : (d : List ℕ) → holds (told B H) d c ≡ false → holder (told B H') d ≡ holder (told B H) d
    still_held d h = same_holder d (λ q. ⊎_elim
        (λ e. subst (λ k. holds (told B H') d k ≡ holds (told B H) d k) (eqb-true c q e) (none d ∙ sym h))
        (λ e. others d q e)
        (cases_Bool (eqb c q)))

    nobody_else : (d : List ℕ) (q : ℕ) → holds (told B H) d c ≡ true → eqb c q ≡ false → (b : Bool) → holds (told B H) d q ≡ b → b ≡ false
    nobody_else d q h e true k = absurd (true≢false (sym (eq-eqb c q (one_holder B H d c q h k)) ∙ e))
    nobody_else d q h e false k = refl

    freed : (d : List ℕ) → holds (told B H) d c ≡ true → holder (told B H') d ≡ None
    freed d h = holder_is B H' d None (λ q. ⊎_elim
        (λ e. subst (λ k. holds (told B H') d k ≡ false) (eqb-true c q e) (none d))
        (λ e. others d q e ∙ nobody_else d q h e (holds (told B H) d q) refl)
        (cases_Bool (eqb c q)))

    -- its maildrop's lock is let go
    pub released : (k : Contents) (x : Seen) (s : Option Session) (before now : BTreeMap (List ℕ) ℕ) → IsSession k x s → x.live ≡ live (told B H) c → x.login ≡ login (told B H) c
        → ((d : List ℕ) → get name_cmp before d ≡ holder (told B H) d) → Released (maildrop_of s) before now → (d : List ℕ) → get name_cmp now d ≡ holder (told B H') d
    released k x None before now i l n locks r d =
        let out : live (told B H) c ≡ false = sym l ∙ i in
        r d ∙ (locks d ∙ sym (still_held d (rw out refl)))
    released k x (Some s) before now i l n locks u d = at (bytes_eq s.name.maildrop d) refl
      where
        in_session : live (told B H) c ≡ true
        in_session = sym l ∙ i.live

        named : login (told B H) c ≡ Some s.name
        named = sym n ∙ i.login

        found : (b : Bool) → bytes_eq s.name.maildrop d ≡ b → get name_cmp now d ≡ cond b None (get name_cmp before d)
        found b e = u.0 d ∙ ap (λ b. cond b None (get name_cmp before d)) (is_eq-slice_cmp s.name.maildrop d ∙ e)

        held : (b : Bool) → bytes_eq s.name.maildrop d ≡ b → holds (told B H) d c ≡ b
        held b e = let p = in_session in let q = named in rw (p, q) e

        at : (b : Bool) → bytes_eq s.name.maildrop d ≡ b → get name_cmp now d ≡ holder (told B H') d
        at true e = found true e ∙ sym (freed d (held true e))
        at false e = found false e ∙ (locks d ∙ sym (still_held d (held false e)))

-- ---- an event that nothing comes of

record Log : Type 0 where
  octets : List ℕ
  took : ℕ
  clock : ℕ
  number : ℕ × ℕ
  limits : Limits

abbrev log : Trace → ℕ → Log
log T q = record { octets = stream T.log q; took = taken T.log q; clock = clock T.log q; number = (opened T.log, moment T.log); limits = limits_in T.log }

-- no act, and the connections gave and took what they did
pub record Nothing (T : Trace) (e : Event) (m : EventTag) : Type 0 where
  pub acts : acts (given T e m) ≡ acts T
  pub log : (q : ℕ) → log (given T e m) q ≡ log T q
  pub formed : are_formed (given T e m).log ≡ true

pub nothing_stands : {V : Type 0} (Holds : V → Contents → Type 0) (o o' : Office V) (T : Trace) (e : Event) (m : EventTag) → (st : StandsFor Holds o T)
    → Nothing T e m → ((k : Contents) → Holds o.vault k → Holds o'.vault k) → o'.policy ≡ o.policy → o'.boot ≡ o.boot → string_bytes o'.host ≡ string_bytes o.host
    → o'.limits ≡ o.limits → counters o' ≡ counters o → ((q : ℕ) → get nat_cmp o'.connections q ≡ get nat_cmp o.connections q)
    → ((d : List ℕ) → get name_cmp o'.locks d ≡ get name_cmp o.locks d) → StandsFor Holds o' (given T e m)
nothing_stands Holds o o' T e m st n on p b s l k connections locks =
    let T' = given T e m in
    let same : history T' ≡ history T = ap (told T.base) n.acts in
    let looks : (q : ℕ) → seen T' q ≡ seen T q = λ q.
    ap₂ (λ (x : Log) (G : List Entry). record (seen_at T.base T.log G q) { stream = x.octets; taken = x.took; clock = x.clock }) (n.log q) same in
    let number : (opened T'.log, moment T'.log) ≡ (opened T.log, moment T.log) = ap (λ (x : Log). x.number) (n.log 0) in
    let limits : limits_in T'.log ≡ limits_in T.log = ap (λ (x : Log). x.limits) (n.log 0) in
    record {
      keeps = record {
        contents = st.keeps.contents;
        held = on st.keeps.contents st.keeps.held;
        agree = rw same st.keeps.agree;
        sound = st.keeps.sound;
        formed = n.formed;
        began = begun_on e m T.log st.began;
      };
      began = begins_on e m T.log st.began;
      policy = p ∙ rw same st.policy;
      boot = b ∙ rw same st.boot;
      host = s ∙ rw same st.host;
      judged = ap (λ (x : Limits). x.removals) l ∙ rw same st.judged;
      limits = l ∙ (st.limits ∙ sym limits);
      moment = ap (λ (x : ℕ × ℕ). x.1) k ∙ (st.moment ∙ ap (λ (x : ℕ × ℕ). x.1) (sym number));
      numbered = λ q some. let same : opened T'.log ≡ opened T.log = ap (λ (x : ℕ × ℕ). x.0) number in rw same (st.numbered q (rw (connections q) at some));
      opened = ap (λ (x : ℕ × ℕ). x.0) k ∙ (st.opened ∙ ap (λ (x : ℕ × ℕ). x.0) (sym number));
      connections = λ q. rw (looks q, connections q) (st.connections q);
      locks = λ d. locks d ∙ (st.locks d ∙ ap (λ G. holder G d) (sym same));
    }

ignored_log : (T : Trace) (e : Event) (q : ℕ) → log (given T e Ignored) q ≡ log T q
ignored_log T (event.Start host boot limits) q = refl
ignored_log T event.Connect q = refl
ignored_log T (event.Bytes c piece) q = refl
ignored_log T (event.Took c octets) q = refl
ignored_log T (event.Gone c) q = refl
ignored_log T (event.Tick now) q = refl
ignored_log T (event.Deposit d class id text) q = refl
ignored_log T (event.Admin command) q = refl
ignored_log T (event.Restart boot) q = refl

-- nothing comes of an event that is ignored
pub ignored_event : (T : Trace) (e : Event) → are_formed T.log ≡ true → Nothing T e Ignored
ignored_event T e f = record { acts = refl; log = λ q. ignored_log T e q; formed = f }

pub lacked_connect : (T : Trace) → is_formed T.log event.Connect ≡ true → are_formed T.log ≡ true → Nothing T event.Connect (Tagged NoMemory)
lacked_connect T n f = record { acts = refl; log = λ q. refl; formed = rw n f }

-- ---- another connection

pub is_apart : (c q : ℕ) → eqb c q ≡ false → is_at (nat_cmp c) q ≡ false
is_apart c q h = grind (arith, nat_tests, h)

-- what was looked at stands where it stood
pub put_back : (c : ℕ) (k : Kept) (before now : BTreeMap ℕ Kept) → get nat_cmp before c ≡ Some k → Updates nat_cmp before now c (Some k) → (q : ℕ) → get nat_cmp now q ≡ get nat_cmp before q
put_back c k before now found u q = ⊎_elim
    (λ e. subst (λ x. get nat_cmp now x ≡ get nat_cmp before x) (eqb-true c q e) (u.1 ∙ sym found))
    (λ e. u.2 q (is_apart c q e))
    (cases_Bool (eqb c q))

-- ---- a connection comes

cut_anew : (ps : List (List ℕ)) → map cut_of ps ≡ map cut_of (prefixed [] ps)
cut_anew [] = refl
cut_anew (p ∷ ps) = refl

-- what is kept of it is a greeting to send
abbrev pub greeted : ℕ → ℕ → List ℕ → Removals → (now : ℕ) → Kept
greeted c boot host removals now = record {
  held = nothing_held;
  pending = [];
  output = record { ready = bytes_of (Greeting c boot host); source = source.Nothing };
  state = nothing_said removals;
  stamp = timestamp c boot host;
  session = None;
  clock = now;
}

module _ {V : Type 0} (Holds : V → Contents → Type 0) (o o' : Office V) (T : Trace) (st : StandsFor Holds o T) where
  abbrev newest : ℕ
  newest = next_number T.log

  abbrev with_one : Trace
  with_one = given T event.Connect (Tagged Done)

  come_other : (q : ℕ) → eqb newest q ≡ false → seen with_one q ≡ seen T q
  come_other q e = rw e refl

  come_holds : (d : List ℕ) (q : ℕ) → eqb newest q ≡ false → holds (history with_one) d q ≡ holds (history T) d q
  come_holds d q e = rw e refl

  come_none : (d : List ℕ) → holds (history with_one) d newest ≡ false
  come_none d = let e = eq-eqb newest newest refl in rw e refl

  unheard : (k : Option Kept) → get nat_cmp o.connections newest ≡ k → IsKeptFor st.keeps.contents (seen T newest) k → live (history T) newest ≡ false
  unheard None e h = h.authorization
  unheard (Some k) e h = absurd (let fits = (st.numbered newest (rw e refl)).1 in omega (arith, fits))

  come_matches : Matches st.keeps.contents (seen with_one newest) (greeted newest (setting (history T)).0 (setting (history T)).1 (judging (history T)) (moment T.log))
  come_matches = let e = eq-eqb newest newest refl in record {
    opened = rw e refl;
    session = rw e refl;
    parted = λ h. rw e refl;
    taken = rw e (omega arith);
    owed = rw e (owes_ready st.keeps.contents None _ _ refl);
    serving = λ t. absurd (true≢false (sym t));
    closing = rw e refl;
    user = rw e refl;
    failures = rw e refl;
    stamp = refl;
    judged = refl;
    clock = rw e refl;
    lines = λ more. rw e (cut_anew (pieces more));
    cut_whole = λ h. refl;
    line_kept = omega arith;
    piece_kept = omega arith;
  }

  pub come_stands : (n : ℕ) (k : Kept) → n ≡ newest → k ≡ greeted n o.boot (string_bytes o.host) o.limits.removals o.moment → is_formed T.log event.Connect ≡ true
      → ((k : Contents) → Holds o.vault k → Holds o'.vault k) → o'.policy ≡ o.policy → o'.boot ≡ o.boot → string_bytes o'.host ≡ string_bytes o.host → o'.limits ≡ o.limits
      → counters o' ≡ (n, o.moment) → Updates nat_cmp o.connections o'.connections n (Some k) → ((d : List ℕ) → get name_cmp o'.locks d ≡ get name_cmp o.locks d) → StandsFor Holds o' with_one
  come_stands n k number kept formed on p b s l m u locks =
      let at : Updates nat_cmp o.connections o'.connections newest (Some k) = subst (λ x. Updates nat_cmp o.connections o'.connections x (Some k)) number u in
      let there : (q : ℕ) → eqb newest q ≡ false → get nat_cmp o'.connections q ≡ get nat_cmp o.connections q = λ q e. at.2 q (is_apart newest q e) in
      let here : k ≡ greeted newest (setting (history T)).0 (setting (history T)).1 (judging (history T)) (moment T.log) =
      kept ∙ (ap (λ x. greeted x o.boot (string_bytes o.host) o.limits.removals o.moment) number ∙ (ap (λ x. greeted newest x (string_bytes o.host) o.limits.removals o.moment) st.boot
      ∙ (ap (λ x. greeted newest (setting (history T)).0 x o.limits.removals o.moment) st.host ∙ (ap (λ x. greeted newest (setting (history T)).0 (setting (history T)).1 x o.moment) st.judged
      ∙ ap (greeted newest (setting (history T)).0 (setting (history T)).1 (judging (history T))) st.moment)))) in
      record {
        keeps = record {
          contents = st.keeps.contents;
          held = on st.keeps.contents st.keeps.held;
          agree = st.keeps.agree;
          sound = st.keeps.sound;
          formed = rw formed st.keeps.formed;
          began = begun_on event.Connect (Tagged Done) T.log st.began;
        };
        began = begins_on event.Connect (Tagged Done) T.log st.began;
        policy = p ∙ st.policy;
        boot = b ∙ st.boot;
        host = s ∙ st.host;
        judged = ap (λ (x : Limits). x.removals) l ∙ st.judged;
        limits = l ∙ st.limits;
        moment = ap (λ (x : ℕ × ℕ). x.1) m ∙ st.moment;
        numbered = λ q some. ⊎_elim
            (λ e. subst (λ x. (1 ≤ x) × (x ≤ newest)) (eqb-true newest q e) (omega arith, omega arith))
            (λ e. let fits = st.numbered q (rw (there q e) at some) in (fits.0, omega (arith, fits.1)))
            (cases_Bool (eqb newest q));
        opened = ap (λ (x : ℕ × ℕ). x.0) m ∙ number;
        connections = λ q. ⊎_elim
            (λ e. subst (λ x. IsKeptFor st.keeps.contents (seen with_one x) (get nat_cmp o'.connections x)) (eqb-true newest q e)
            (subst (IsKeptFor st.keeps.contents (seen with_one newest)) (sym (at.1 ∙ ap Some here)) come_matches))
            (λ e. rw (come_other q e, there q e) (st.connections q))
            (cases_Bool (eqb newest q));
        locks = λ d.
            let out : live (history T) newest ≡ false = unheard (get nat_cmp o.connections newest) refl (st.connections newest) in
            locks d ∙ (st.locks d ∙ sym (still_held T.base (acts T) (acts with_one) newest come_holds come_none d (rw out refl)));
      }

-- a number that is left has its form
pub number_left : (n m : ℕ) → n ≡ m → n < 18446744073709551615 → is_u64 (m + 1) ≡ true
number_left n m e h = lt-ltb (m + 1) (2 ^ 64) (omega (arith, e, h))

pub after_ok : {A E P : Type 0} (r : Result A E) → is_err r ≡ false → OnOk r P → P
after_ok (Ok x) e p = p
after_ok (Err x) e p = absurd (true≢false e)

pub after_err : {A E P : Type 0} (r : Result A E) → is_err r ≡ true → OnErr r P → P
after_err (Ok x) e p = absurd (true≢false (sym e))
after_err (Err x) e p = p

-- ---- an office starts

-- an answer, as a result
abbrev answered : (A E : Type 0) → A → Result A E
answered A E x = Ok x

pub same_ok : {A E : Type 0} (x y : A) → answered A E x ≡ answered A E y → y ≡ x
same_ok x y e = cc

pub start_formed : (T : Trace) (host : List ℕ) (boot : ℕ) (limits : Limits) → is_host host ≡ true → boot < 18446744073709551616 → 600 ≤ limits.idle → limits.idle ≤ 86400
    → is_formed T.log (event.Start host boot limits) ≡ true
start_formed T host boot limits h fits low high =
    let b : is_u64 boot ≡ true = lt-ltb boot (2 ^ 64) (omega (arith, fits)) in
    rw (h, b, le-leb 600 limits.idle low, le-leb limits.idle 86400 high) refl

pub start_stands : {V : Type 0} (Holds Before : V → Contents → Type 0) (v : V) (o : Office V) (T : Trace) (host : List ℕ) (boot : ℕ) (limits : Limits) → (k : Keeps (Before v) T)
    → Holds o.vault k.contents → o.policy ≡ k.contents.policy → o.boot ≡ boot → string_bytes o.host ≡ host → o.limits ≡ limits → counters o ≡ (0, 0)
    → is_formed T.log (event.Start host boot limits) ≡ true → ((q : ℕ) → get nat_cmp o.connections q ≡ None) → ((d : List ℕ) → get name_cmp o.locks d ≡ None)
    → StandsFor Holds o (given T (event.Start host boot limits) (Tagged Done))
start_stands Holds Before v o T host boot limits k held p b s l n formed connections locks =
    let T' = given T (event.Start host boot limits) (Tagged Done) in
    record {
      keeps = record { contents = k.contents; held = held; agree = k.agree; sound = k.sound; formed = rw formed k.formed; began = begun_of T'.log (begins_anew host boot limits Done T.log k.began) };
      began = begins_anew host boot limits Done T.log k.began;
      policy = p ∙ k.agree.policy;
      boot = b;
      host = s;
      judged = ap (λ (x : Limits). x.removals) l;
      limits = l;
      moment = ap (λ (x : ℕ × ℕ). x.1) n;
      numbered = λ q some. let none = connections q in absurd (true≢false (sym (rw none at some)));
      opened = ap (λ (x : ℕ × ℕ). x.0) n;
      connections = λ q. let none = connections q in rw none (record { closed = refl; authorization = refl });
      locks = λ d. locks d ∙ sym (holder_is T.base (acts T') d None (λ q. refl));
    }
