-- What the clauses of the functions say of one trace.
use Rattle.std.proofs.Common.{◌≡◌, ℕ, ◌<◌, ◌≤◌, Bool, true, false, not, ◌&&◌, ◌||◌, cond, List, [], ◌∷◌, ◌++◌, length, take, refl, sym, ◌∙◌, ap, arith, subst, nat_lt, nat_le}
use Rattle.std.proofs.Common.{ltb-true, lt-ltb, le-ltb, le-leb, leb-true, ◌⊎◌, inl, inr, ⊎_elim, MatchResult, Ok, Err, append-nil, append_assoc, min, Option, Some, None, Result}
use Rattle.std.proofs.Common.{IsErrAnd, eqb-true, ◌==◌}
use Rattle.std.specs.Io.KnownBytes.{Appends, Consumes, Keeps}
use Rattle.vault.specs.Records.{Records}
use Rattle.vault.specs.Calls.{has_grown, greatest_count}
use Rattle.office.specs.History.{Act, Tag}
use Rattle.office.specs.Events.{Event, EventTag, Log, Trace}
use Rattle.office.specs.Events as event
use Rattle.office.specs.Trace.{acts, rest, is_open, IsLent}
use Rattle.office.specs.Replying.{is_empty}
use Rattle.office.specs.Expected.{IsOutcome, most_in_a_piece, is_full}
use Rattle.office.specs.Outcomes.{Outcome, Opened, event_tag_of, HasCause}
use Rattle.office.specs.Outcomes as outcome
use Rattle.converse.specs.Printed.{PrintsPart}
use Rattle.converse.specs.Talk.{TalksInPart}
use Rattle.converse.specs.Talked.{trace_of, is_own, Extends, ComesOut, MetLack}
use Rattle.converse.specs.Conversing.{GoesOn, Waits, Midway, IsPaid, IsOver, IsCut, Refuses, memory_by}
use Rattle.converse.specs.declared.talk.TalkFault.{TalkFault}
use Rattle.converse.specs.declared.talk.TalkFault.TheVariants as fault
use Rattle.converse.proofs.Events.{is_lack, hears_on, hears_last}
use Rattle.converse.proofs.Takings.{IsTaking, takes_on, takes_last}
use Rattle.converse.proofs.Ends.{part_lends, part_shut, goes, waited, waited_reading, closed, part_stays, broken}

-- ---- a piece

pub hears : (B : Records) (c : ℕ) (past : List (Act × Tag)) (octets written piece : List ℕ) (L : Log) → Waits B c past octets written L → length piece ≤ most_in_a_piece
    → (lent : ℕ → ℕ) (o : Outcome) → IsOutcome (trace_of B L) lent (event.Bytes c piece) o
    → MatchResult (memory_by o) (λ _. GoesOn B c past (octets ++ piece) written ((event.Bytes c piece, event_tag_of o) ∷ L))
    (λ e. IsCut e B c past (octets ++ piece) written ((event.Bytes c piece, event_tag_of o) ∷ L))
hears B c past octets written piece L w short lent (Opened n) h = hears_on B c past octets written piece L w (le-ltb most_in_a_piece (length piece) short) lent (Opened n) h refl
hears B c past octets written piece L w short lent outcome.Done h = hears_on B c past octets written piece L w (le-ltb most_in_a_piece (length piece) short) lent outcome.Done h refl
hears B c past octets written piece L w short lent outcome.Failed h = hears_on B c past octets written piece L w (le-ltb most_in_a_piece (length piece) short) lent outcome.Failed h refl
hears B c past octets written piece L w short lent outcome.NoMemory h =
    (hears_last B c past octets written piece L w (le-ltb most_in_a_piece (length piece) short) lent outcome.NoMemory h, (event.Bytes c piece, L, refl))
hears B c past octets written piece L w short lent (outcome.Ignored r) h = hears_on B c past octets written piece L w (le-ltb most_in_a_piece (length piece) short) lent (outcome.Ignored r) h refl
hears B c past octets written piece L w short lent (outcome.Answered a) h = hears_on B c past octets written piece L w (le-ltb most_in_a_piece (length piece) short) lent (outcome.Answered a) h refl

-- ---- a taking

grown_if : (a b d : Bool) → (a || d) ≡ true → (a ≡ true → b ≡ true) → (b || d) ≡ true
grown_if true b d e f = let g = f refl in rw g refl
grown_if false true d e f = refl
grown_if false false d e f = e

-- what grew since, grew since before
pub grown_since : (first before now : ℕ) → first ≤ before → has_grown before now ≡ true → has_grown first now ≡ true
grown_since first before now h e =
    grown_if (nat_lt before now) (nat_lt first now) (nat_le greatest_count now) e (λ q. (let k = ltb-true before now q in lt-ltb first now (omega (arith, k, h))))

still_if : (a b d f : Bool) → (a || d) ≡ true → (a ≡ true → b ≡ true) → (d ≡ true → f ≡ true) → (b || f) ≡ true
still_if true b d f e p q = let g = p refl in rw g refl
still_if false true d f e p q = refl
still_if false false d f e p q = q e

-- what grew stays grown
pub grown_still : (first before now : ℕ) → before ≤ now → has_grown first before ≡ true → has_grown first now ≡ true
grown_still first before now h e =
    still_if (nat_lt first before) (nat_lt first now) (nat_le greatest_count before) (nat_le greatest_count now) e
    (λ q. (let k = ltb-true first before q in lt-ltb first now (omega (arith, k, h))))
    (λ q. (let k = leb-true greatest_count before q in le-leb greatest_count now (omega (arith, k, h))))

cause_of : (before now : ℕ) (o : Outcome) → o ≡ outcome.Failed → HasCause before now o → has_grown before now ≡ true
cause_of before now o e h = subst (λ q. HasCause before now q) e h

module _ (B : Records) (c : ℕ) (past : List (Act × Tag)) (octets written : List ℕ) (L : Log) (n : ℕ) (lent : List ℕ) where
  abbrev After : Outcome → Log
  After o = (event.Took c n, event_tag_of o) ∷ L

  abbrev Written : List ℕ
  Written = written ++ take n lent

  taken_on : IsTaking B c past octets written n lent L → (lends : ℕ → ℕ) → length lent ≡ lends c → (first before now : ℕ) → first ≤ before → (o : Outcome)
      → IsOutcome (trace_of B L) lends (event.Took c n) o → HasCause before now o → is_lack o ≡ false → Midway first now B c past octets Written (After o)
  taken_on k lends count first before now h o is cause kept = ⊎_elim
      (λ (g : GoesOn B c past octets Written (After o)). inl g)
      (λ (g : TalksInPart B c octets Written past (acts (trace_of B (After o))) × (o ≡ outcome.Failed)). inr (g.0, grown_since first before now h (cause_of before now o g.1 cause)))
      (takes_on B c past octets written L n lent k lends count o is kept)

  pub takes : IsTaking B c past octets written n lent L → (lends : ℕ → ℕ) → length lent ≡ lends c → (first before now : ℕ) → first ≤ before → (o : Outcome)
      → IsOutcome (trace_of B L) lends (event.Took c n) o → HasCause before now o
      → MatchResult (memory_by o) (λ _. Midway first now B c past octets Written (After o)) (λ e. IsCut e B c past octets Written (After o))
  takes k lends count first before now h (Opened m) is cause = taken_on k lends count first before now h (Opened m) is cause refl
  takes k lends count first before now h outcome.Done is cause = taken_on k lends count first before now h outcome.Done is cause refl
  takes k lends count first before now h outcome.Failed is cause = taken_on k lends count first before now h outcome.Failed is cause refl
  takes k lends count first before now h outcome.NoMemory is cause = (takes_last B c past octets written L n lent k lends count outcome.NoMemory is refl, (event.Took c n, L, refl))
  takes k lends count first before now h (outcome.Ignored r) is cause = taken_on k lends count first before now h (outcome.Ignored r) is cause refl
  takes k lends count first before now h (outcome.Answered a) is cause = taken_on k lends count first before now h (outcome.Answered a) is cause refl

  -- if something is lent, the conversation goes on
  pub taking : (first now : ℕ) → Midway first now B c past octets written L → 0 < n → n ≤ length lent → IsLent (rest (trace_of B L) c) lent → IsTaking B c past octets written n lent L
  taking first now m some fits is = ⊎_elim
      (λ (g : GoesOn B c past octets written L). record { on = g; some = some; fits = fits; is = is })
      (λ (g : TalksInPart B c octets written past (acts (trace_of B L)) × (has_grown first now ≡ true)).
      (let z = part_lends B c past octets written L lent g.0 is in absurd (omega (arith, some, fits, z))))
      m

-- ---- known octets

pub consumes_none : (u v : Option (List ℕ)) → Keeps u v → Consumes u v []
consumes_none None v k = tt
consumes_none (Some xs) None k = absurd k
consumes_none (Some xs) (Some ys) k = sym k

pub appends_none : (u v : Option (List ℕ)) → Keeps u v → Appends u v []
appends_none None v k = tt
appends_none (Some xs) None k = absurd k
appends_none (Some xs) (Some ys) k = k ∙ sym (append-nil xs)

pub keeps_same : (u : Option (List ℕ)) → Keeps u u
keeps_same None = tt
keeps_same (Some xs) = refl

-- nothing of a text was printed
pub prints_none : (u : Option (List ℕ)) (text : List ℕ) → PrintsPart u u text
prints_none u text = ([], text, refl, appends_none u u (keeps_same u))

pub appends_then : (u v w : Option (List ℕ)) (a b : List ℕ) → Appends u v a → Appends v w b → Appends u w (a ++ b)
appends_then None v w a b x y = tt
appends_then (Some xs) None w a b x y = absurd x
appends_then (Some xs) (Some ys) None a b x y = y
appends_then (Some xs) (Some ys) (Some zs) a b x y = y ∙ (ap (λ (t : List ℕ). t ++ b) x ∙ append_assoc xs a b)

pub appends_kept : (u v w : Option (List ℕ)) (a : List ℕ) → Appends u v a → Keeps v w → Appends u w a
appends_kept None v w a x y = tt
appends_kept (Some xs) None w a x y = absurd x
appends_kept (Some xs) (Some ys) None a x y = absurd y
appends_kept (Some xs) (Some ys) (Some zs) a x y = y ∙ x

pub consumes_then : (u v w : Option (List ℕ)) (a b : List ℕ) → Consumes u v a → Consumes v w b → Consumes u w (a ++ b)
consumes_then None v w a b x y = tt
consumes_then (Some xs) None w a b x y = absurd x
consumes_then (Some xs) (Some ys) None a b x y = y
consumes_then (Some xs) (Some ys) (Some zs) a b x y = x ∙ (ap (λ (t : List ℕ). a ++ t) y ∙ sym (append_assoc a b zs))

-- ---- nothing is owed

min_none : (n : ℕ) → min n 512 ≤ 0 → n ≡ 0
min_none n h = omega (arith, h)

none_left : (xs : List ℕ) → length xs ≡ 0 → xs ≡ []
none_left [] e = refl
none_left (x ∷ xs) e = absurd (omega (arith, e))

pub nothing_lent : (rest lent : List ℕ) → IsLent rest lent → lent ≡ [] → rest ≡ []
nothing_lent rest lent l e = let h = l.enough in let n = ap length e in none_left rest (min_none (length rest) (omega (arith, h, n)))

pub paid : (before now : ℕ) (B : Records) (c : ℕ) (past : List (Act × Tag)) (octets written : List ℕ) (L : Log) (lent : List ℕ) → Midway before now B c past octets written L
    → IsLent (rest (trace_of B L) c) lent → lent ≡ [] → IsPaid before now B c past octets written L
paid before now B c past octets written L lent m l e = record { midway = m; nothing = nothing_lent (rest (trace_of B L) c) lent l e }

pub found_empty : (b : Bool) (xs : List ℕ) → b ≡ true → b ≡ (length xs == 0) → xs ≡ []
found_empty b xs t e = none_left xs (eqb-true (length xs) 0 (sym e ∙ t))

-- ---- what a `?` returns

pub refused_as : {A E : Type 0} (r : Result A E) (e : E) → IsErrAnd r (λ y. y ≡ e) → r ≡ Err e
refused_as (Ok a) e h = absurd h
refused_as (Err y) e h = ap (λ z. Err z) h

pub not_ok : {A E : Type 0} (r : Result A E) (e : E) (a : A) → r ≡ Err e → r ≡ Ok a → ⊥
not_ok r e a p q = cc

-- ---- if nothing is owed

ready_if : (b : Bool) (r : List ℕ) → b ≡ true → r ≡ [] → (b && is_empty r) ≡ true
ready_if b r e f = rw (e, f) refl

shut_open : (b : Bool) → b ≡ false → b ≡ true → ⊥
shut_open b e f = cc

pub waits_now : (before now : ℕ) (B : Records) (c : ℕ) (past : List (Act × Tag)) (octets written : List ℕ) (L : Log) → IsPaid before now B c past octets written L
    → is_open (trace_of B L) c ≡ true → Waits B c past octets written L
waits_now before now B c past octets written L p opened = ⊎_elim
    (λ (g : GoesOn B c past octets written L). record { on = g; ready = ready_if (is_open (trace_of B L) c) (rest (trace_of B L) c) opened p.nothing })
    (λ (g : TalksInPart B c octets written past (acts (trace_of B L)) × (has_grown before now ≡ true)). absurd (shut_open (is_open (trace_of B L) c) (part_shut B c past octets written L g.0) opened))
    p.midway

pub open_by : (a b : Bool) → a ≡ not b → a ≡ false → b ≡ true
open_by a true e f = refl
open_by a false e f = cc

pub shut_by : (a b : Bool) → a ≡ not b → a ≡ true → b ≡ false
shut_by a true e f = cc
shut_by a false e f = refl

-- ---- the connection's own events

-- one more of them
pub one_more : (c : ℕ) (older L : Log) (e : Event × EventTag) → is_own c e ≡ true → Extends c older L → Extends c older (e ∷ L)
one_more c older L e h w = record { opening = w.opening; own = e ∷ w.own; each = rw h w.each; is = ap (λ (X : Log). e ∷ X) w.is }

-- what a turn of writing says if it wrote nothing, and if it wrote something
pub none_written : {A : Type 0} (b : Bool) (P Q : A → Type 0) (L : A) → b ≡ false → cond b (P L) (Q L) → Q L
none_written true P Q L e h = cc
none_written false P Q L e h = h

pub some_written : {A : Type 0} (b : Bool) (P Q : A → Type 0) (L : A) → b ≡ true → cond b (P L) (Q L) → P L
some_written true P Q L e h = h
some_written false P Q L e h = cc

-- ---- how it comes out

pub refused_out : (AtEnd : Type 0) (grown : Bool) (T : Trace) (c : ℕ) (e : TalkFault) (L : Log) → Refuses T e L → ComesOut AtEnd grown T c [] [] (Err e) L
refused_out AtEnd grown T c e L r = ⊎_elim
    (λ (k : (e ≡ fault.NoMemory) × MetLack L). subst (λ x. ComesOut AtEnd grown T c [] [] (Err x) L) (sym k.0) (inl (record { acts = r.same; unread = refl; replies = refl }, k.1)))
    (λ (k : (e ≡ fault.TooManyConnections) × (is_full T ≡ true)).
    subst (λ x. ComesOut AtEnd grown T c [] [] (Err x) L) (sym k.0) (record { acts = r.same; unread = refl; replies = refl }, k.1))
    r.cause

pub comes_out : (AtEnd : Type 0) (before during now : ℕ) → during ≤ now → (T : Trace) (c : ℕ) (octets written : List ℕ) (r : Result Unit TalkFault) (L : Log) (lent : ℕ → ℕ) (o : Outcome)
    → IsOutcome (trace_of T.base L) lent (event.Gone c) o
    → MatchResult r (λ _. (Waits T.base c (acts T) octets written L × AtEnd) ⊎ IsOver before during T.base c (acts T) octets written L) (λ e. IsCut e T.base c (acts T) octets written L)
    → ComesOut AtEnd (has_grown before now) T c octets written r ((event.Gone c, event_tag_of o) ∷ L)
comes_out AtEnd before during now later T c octets written (Ok done) L lent o is h =
    let g = goes T.base c (acts T) octets written L lent o is in
    let after = (event.Gone c, event_tag_of o) ∷ L in (
      g.1,
      ⊎_elim
          (λ (w : Waits T.base c (acts T) octets written L × AtEnd). inl (waited T.base c (acts T) octets written L after w.0 g.0 AtEnd w.1))
          (λ (w : IsOver before during T.base c (acts T) octets written L). ⊎_elim
          (λ (on : GoesOn T.base c (acts T) octets written L). inl (closed T.base c (acts T) octets written L after on w.shut g.0 AtEnd))
          (λ (p : TalksInPart T.base c octets written (acts T) (acts (trace_of T.base L)) × (has_grown before during ≡ true)).
          inr (part_stays T.base c (acts T) octets written L after p.0 g.0, grown_still before during now later p.1))
          w.midway)
          h,
    )
comes_out AtEnd before during now later T c octets written (Err fault.Read) L lent o is h =
    let g = goes T.base c (acts T) octets written L lent o is in
    (g.1, waited_reading T.base c (acts T) octets written L ((event.Gone c, event_tag_of o) ∷ L) h g.0)
comes_out AtEnd before during now later T c octets written (Err fault.Write) L lent o is h =
    let g = goes T.base c (acts T) octets written L lent o is in
    (g.1, broken T.base c (acts T) octets written false L ((event.Gone c, event_tag_of o) ∷ L) h g.0)
comes_out AtEnd before during now later T c octets written (Err fault.TooManyConnections) L lent o is h = absurd h
comes_out AtEnd before during now later T c octets written (Err fault.NoMemory) L lent o is h =
    let g = goes T.base c (acts T) octets written L lent o is in
    inr ((g.1, broken T.base c (acts T) octets written true L ((event.Gone c, event_tag_of o) ∷ L) h.0 g.0), (event_tag_of o, L, refl, h.1))
comes_out AtEnd before during now later T c octets written (Err fault.Endless) L lent o is h =
    let g = goes T.base c (acts T) octets written L lent o is in
    ((g.1, broken T.base c (acts T) octets written false L ((event.Gone c, event_tag_of o) ∷ L) h.0 g.0), h.1)
