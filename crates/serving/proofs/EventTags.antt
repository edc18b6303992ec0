-- What isn't ignored shows a tag: a piece for a connection that waits for it, and a taking of what is lent.
use Rattle.std.proofs.Common.{◌≡◌, ℕ, zero, suc, ◌<◌, ◌≤◌, Bool, true, false, not, ◌&&◌, ◌||◌, ◌==◌, List, length, take, refl, ◌∙◌, ap, arith, None, Some, Option, eqb, ne_eqb, nat_lt, le-ltb}
use Rattle.std.proofs.lemmas.List.{length-take, take-take}
use Rattle.std.specs.Bool.{if◌then◌else◌}
use Rattle.office.specs.History.{Tag, Done, Failed, NoMemory}
use Rattle.office.specs.Replying.{is_empty}
use Rattle.office.specs.Events.{Tagged, Trace}
use Rattle.office.specs.Events as event
use Rattle.office.specs.Trace.{history, rest, rest_if, is_open, is_ready, untaken, IsLent}
use Rattle.office.specs.Expected.{IsOutcome, ignored, shown_at, or_ignored, reason_if, most_in_a_piece}
use Rattle.office.specs.Outcomes.{Outcome, Reason, NoSuchConnection, NotReady, PieceTooLong, event_tag_of}
use Rattle.office.specs.Outcomes as outcome

shown_mark : (s : Tag → Outcome) → s Done ≡ outcome.Done → s Failed ≡ outcome.Failed → s NoMemory ≡ outcome.NoMemory → (r : Option Reason) → r ≡ None → (t : Tag) (o : Outcome)
    → o ≡ or_ignored r (s t) → event_tag_of o ≡ Tagged t
shown_mark s d f n r none Done o e =
    let k : o ≡ outcome.Done = e ∙ (ap (λ q. or_ignored q (s Done)) none ∙ d) in rw k refl
shown_mark s d f n r none Failed o e =
    let k : o ≡ outcome.Failed = e ∙ (ap (λ q. or_ignored q (s Failed)) none ∙ f) in rw k refl
shown_mark s d f n r none NoMemory o e =
    let k : o ≡ outcome.NoMemory = e ∙ (ap (λ q. or_ignored q (s NoMemory)) none ∙ n) in rw k refl

both_open : (b : Bool) (u : List ℕ) → (b && is_empty (rest_if b u)) ≡ true → (b ≡ true) × (is_empty (rest_if b u) ≡ true)
both_open true u e = (refl, e)
both_open false u e = cc

bytes_if : (o e s : Bool) → o ≡ true → e ≡ true → s ≡ false
    → (if not o then Some NoSuchConnection else if not e then Some NotReady else reason_if s PieceTooLong) ≡ None
bytes_if o e s a b d = rw (a, b, d) refl

pub bytes_mark : (T : Trace) (lent : ℕ → ℕ) (c : ℕ) (piece : List ℕ) (o : Outcome) → is_ready T c ≡ true → length piece ≤ most_in_a_piece
    → IsOutcome T lent (event.Bytes c piece) o → (t : Tag) × (event_tag_of o ≡ Tagged t)
bytes_mark T lent c piece o ready short h =
    let b = both_open (is_open T c) (untaken T.log (history T) c) ready in
    let s : nat_lt most_in_a_piece (length piece) ≡ false = le-ltb most_in_a_piece (length piece) short in (
      h.tag,
      shown_mark (λ t. shown_at T.base T.log (history T) (event.Bytes c piece) t) refl refl refl (ignored T lent (event.Bytes c piece))
          (bytes_if (is_open T c) (is_empty (rest T c)) (nat_lt most_in_a_piece (length piece)) b.0 b.1 s) h.tag o h.is,
    )

lent_if : (b : Bool) (u lent : List ℕ) → IsLent (rest_if b u) lent → 0 < length lent → b ≡ true
lent_if true u lent l h = refl
lent_if false u lent l h = let n = ap length l.beginning in absurd (omega (arith, n, h, length-take (length lent) (rest_if false u)))

took_if : (o s : Bool) → o ≡ true → s ≡ false → (if not o then Some NoSuchConnection else reason_if s NotReady) ≡ None
took_if o s a b = rw (a, b) refl

amiss : (n l : ℕ) → 0 < n → n ≤ l → ((n == 0) || nat_lt l n) ≡ false
amiss n l a b =
    let z : eqb n 0 ≡ false = ne_eqb n 0 (λ (e : n ≡ 0). (let h : ⊥ = omega (arith, e, a) in h)) in
    let h : nat_lt l n ≡ false = le-ltb l n b in
    rw (z, h) refl

pub took_mark : (T : Trace) (lent_by : ℕ → ℕ) (c n : ℕ) (lent : List ℕ) (o : Outcome) → IsLent (rest T c) lent → length lent ≡ lent_by c → 0 < n → n ≤ length lent
    → IsOutcome T lent_by (event.Took c n) o → (t : Tag) × (event_tag_of o ≡ Tagged t)
took_mark T lent_by c n lent o is count some fits h =
    let open_now = lent_if (is_open T c) (untaken T.log (history T) c) lent is (omega (arith, some, fits)) in (
      h.tag,
      shown_mark (λ t. shown_at T.base T.log (history T) (event.Took c n) t) refl refl refl (ignored T lent_by (event.Took c n))
          (took_if (is_open T c) ((n == 0) || nat_lt (lent_by c) n) open_now (amiss n (lent_by c) some (omega (arith, fits, count)))) h.tag o h.is,
    )

-- so many of what is lent are so many of what is owed
pub lent_rest : (T : Trace) (c n : ℕ) (lent : List ℕ) → IsLent (rest T c) lent → n ≤ length lent → take n lent ≡ take n (rest T c)
lent_rest T c n lent is fits = ap (take n) is.beginning ∙ take-take n (length lent) (rest T c) fits

-- a piece fits
pub short_piece : (n most : ℕ) (xs : List ℕ) → n ≤ most → length (take n xs) ≤ most
short_piece n most xs h = omega (arith, h, length-take n xs)

-- what is lent something is open, and what is lent is owed
pub lent_open : (T : Trace) (c n : ℕ) (lent : List ℕ) → IsLent (rest T c) lent → 0 < n → n ≤ length lent → is_open T c ≡ true
lent_open T c n lent is some fits = lent_if (is_open T c) (untaken T.log (history T) c) lent is (omega (arith, some, fits))

-- ---- going

gone_if : (o : Bool) → o ≡ true → reason_if (not o) NoSuchConnection ≡ None
gone_if o a = rw a refl

-- an open connection's going isn't ignored
pub gone_mark : (T : Trace) (lent_by : ℕ → ℕ) (c : ℕ) (o : Outcome) → is_open T c ≡ true → IsOutcome T lent_by (event.Gone c) o → (t : Tag) × (event_tag_of o ≡ Tagged t)
gone_mark T lent_by c o here h = (
  h.tag,
  shown_mark (λ t. shown_at T.base T.log (history T) (event.Gone c) t) refl refl refl (ignored T lent_by (event.Gone c)) (gone_if (is_open T c) here) h.tag o h.is,
)

-- what is ready is open
pub ready_open : (T : Trace) (c : ℕ) → is_ready T c ≡ true → is_open T c ≡ true
ready_open T c ready = (both_open (is_open T c) (untaken T.log (history T) c) ready).0

-- what isn't empty has some
pub lent_some : (is_none : Bool) (n : ℕ) → is_none ≡ (n == 0) → is_none ≡ false → 0 < n
lent_some is_none zero e some = cc
lent_some is_none (suc n) e some = omega arith
