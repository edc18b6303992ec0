-- Why the next turn doesn't wait: what was asked for before, or what moved.
use Rattle.std.proofs.Common.{◌≡◌, ◌≤◌, ◌<◌, ℕ, zero, suc, Bool, true, false, ◌||◌, List, [], ◌∷◌, ◌++◌, length, refl, sym, ◌∙◌, ap, arith, Some, None, Option, ◌==◌, ◌⊎◌, ⊎_elim, true≢false, nat_lt}
use Rattle.std.specs.Bool.{if◌then◌else◌}
use Rattle.std.specs.List.{filter}
use Rattle.std.proofs.lemmas.Bool.{or_cases, lt-ltb}
use Rattle.std.proofs.lemmas.List.Folds.{list_any-append}
use Rattle.serving.specs.declared.wire.Link.{Link}
use Rattle.serving.specs.declared.wire.Port.TheVariants.{Pop, Admin}
use Rattle.serving.specs.declared.wire.Io.TheVariants.{Count, Later, End, Broken}
use Rattle.serving.specs.declared.requests.Response.{Response}
use Rattle.serving.specs.declared.requests.Exchange.{Exchange}
use Rattle.serving.specs.declared.links.Links.{Links}
use Rattle.serving.specs.Requests.{octets_of}
use Rattle.serving.specs.HttpWorks.{AreWrites, AreWritesOf, IsWrittenOf}
use Rattle.serving.specs.Turns.{millis_of}
use Rattle.serving.proofs.HttpWorking.{WrittenSoFar}
use Rattle.serving.specs.Calls.{Call, Waited, Accepted, Looked, Read, Wrote, Closed}
use Rattle.serving.specs.Works.{is_moving, has_moved, is_taking_of, octets_taken, share_by}
use Rattle.serving.specs.Parts.{PollsBy, PollsAfterClosing}
use Rattle.serving.proofs.Working.{or_true, any_left, any_right}

pub is_left : (a b : Bool) → a ≡ true → (a || b) ≡ true
is_left a b h = ap (λ x. x || b) h

pub is_right : (a b : Bool) → b ≡ true → (a || b) ≡ true
is_right a b h = ap (λ x. a || x) h ∙ or_true a

-- what follows from either
either : (a b c : Bool) → (a ≡ true → c ≡ true) → (b ≡ true → c ≡ true) → (a || b) ≡ true → c ≡ true
either a b c f g h = ⊎_elim (λ (x : a ≡ true). f x) (λ (x : b ≡ true). g x) (or_cases a b h)

pub not_true : (b : Bool) → (b ≡ true → ⊥) → b ≡ false
not_true true h = absurd (h refl)
not_true false h = refl

-- ---- what was asked for before

pub polled_same : (p : Bool) (calls : List Call) → PollsBy p p calls
polled_same p calls e = is_left p (has_moved calls) e

pub polled_quiet : (p : Bool) (calls : List Call) → PollsBy p (p || false) calls
polled_quiet p calls e = either p false (p || has_moved calls) (λ x. is_left p (has_moved calls) x) (λ x. absurd (true≢false (sym x))) e

pub polled_moved : (p q : Bool) (calls : List Call) → has_moved calls ≡ true → PollsBy p q calls
polled_moved p q calls h e = is_right p (has_moved calls) h

pub polled_then : (p q r : Bool) (c1 c2 : List Call) → PollsBy p q c1 → PollsBy q r c2 → PollsBy p r (c1 ++ c2)
polled_then p q r c1 c2 a b e =
    let m = has_moved (c1 ++ c2) in
    either q (has_moved c2) (p || m)
    (λ x. either p (has_moved c1) (p || m) (λ y. is_left p m y) (λ y. is_right p m (any_left is_moving c1 c2 y)) (a x))
    (λ x. is_right p m (any_right is_moving c1 c2 x))
    (b e)

pub polled_behind : (p q r : Bool) (c1 c2 : List Call) → (r ≡ true → q ≡ true) → PollsBy p q c2 → PollsBy p r (c1 ++ c2)
polled_behind p q r c1 c2 h b e = polled_then p p q c1 c2 (polled_same p c1) b (h e)

-- for one cause more
pub polled_more : (p p2 q : Bool) (calls : List Call) → (p ≡ true → p2 ≡ true) → PollsBy p q calls → PollsBy p2 q calls
polled_more p p2 q calls more a e =
    either p (has_moved calls) (p2 || has_moved calls) (λ x. is_left p2 (has_moved calls) (more x)) (λ x. is_right p2 (has_moved calls) x) (a e)

pub or_joined : (a b c : Bool) → ((a || b) || c) ≡ true → (a || (b || c)) ≡ true
or_joined true b c h = refl
or_joined false b c h = h

pub or_both : (a b c d : Bool) → (a ≡ true → c ≡ true) → (b ≡ true → d ≡ true) → (a || b) ≡ true → (c || d) ≡ true
or_both a b c d f g h = either a b (c || d) (λ x. is_left c d (f x)) (λ x. is_right c d (g x)) h

pub or_neither : (a b : Bool) → a ≡ false → b ≡ false → (a || b) ≡ false
or_neither a b e f = ap (λ x. x || b) e ∙ f

-- ---- if logins wait for locks

pub releases_then : (wait : ℕ) (p q : Bool) (c1 c2 : List Call) → (p ≡ true → q ≡ true) → PollsAfterClosing wait p c1 → PollsAfterClosing wait q c2 → PollsAfterClosing wait q (c1 ++ c2)
releases_then wait p q c1 c2 still a b = λ on e.
    ⊎_elim
    (λ (x : has_moved c1 ≡ true). still (a on x))
    (λ (x : has_moved c2 ≡ true). b on x)
    (or_cases (has_moved c1) (has_moved c2) (sym (list_any-append is_moving c1 c2) ∙ e))

pub some_wait : (n : ℕ) → (n == 0) ≡ false → nat_lt 0 n ≡ true
some_wait zero h = absurd (true≢false h)
some_wait (suc n) h = lt-ltb 0 (suc n) (omega arith)

-- ---- a session that ended

-- a client has more, or its session ended
pub client_polled : (p q f r : Bool) (calls : List Call) → PollsBy p q calls → (r ≡ true → (q || f) ≡ true) → PollsBy (p || f) r calls
client_polled p q f r calls a h e =
    let m = has_moved calls in
    either q f ((p || f) || m)
    (λ x. either p m ((p || f) || m) (λ y. is_left (p || f) m (is_left p f y)) (λ y. is_right (p || f) m y) (a x))
    (λ x. is_left (p || f) m (is_right p f x))
    (h e)

pub clients_polled : (p q r f1 f2 : Bool) (c1 c2 : List Call) → (f1 ≡ true → f2 ≡ true) → PollsBy (p || f1) q c1 → PollsBy (q || f2) r c2 → PollsBy (p || f2) r (c1 ++ c2)
clients_polled p q r f1 f2 c1 c2 still a b e =
    let m = has_moved (c1 ++ c2) in
    let t = (p || f2) || m in
    either (q || f2) (has_moved c2) t
    (λ x. either q f2 t
    (λ y. either (p || f1) (has_moved c1) t
    (λ z. is_left (p || f2) m (either p f1 (p || f2) (λ w. is_left p f2 w) (λ w. is_right p f2 (still w)) z))
    (λ z. is_right (p || f2) m (any_left is_moving c1 c2 z))
    (a y))
    (λ y. is_left (p || f2) m (is_right p f2 y))
    x)
    (λ x. is_right (p || f2) m (any_right is_moving c1 c2 x))
    (b e)

-- ---- what was written moved

any_taken : (l : Link) (calls : List Call) → 0 < octets_taken l calls → has_moved calls ≡ true
any_taken l [] h = absurd (omega (arith, h))
any_taken l (Waited n ∷ calls) h = any_taken l calls (omega (arith, h))
any_taken l (Accepted port None ∷ calls) h = any_taken l calls (omega (arith, h))
any_taken l (Accepted port (Some k) ∷ calls) h = refl
any_taken l (Looked port k io xs ∷ calls) h = any_taken l calls (omega (arith, h))
any_taken l (Read port k room (Count n) xs ∷ calls) h = refl
any_taken l (Read port k room Later xs ∷ calls) h = any_taken l calls (omega (arith, h))
any_taken l (Read port k room End xs ∷ calls) h = any_taken l calls (omega (arith, h))
any_taken l (Read port k room Broken xs ∷ calls) h = any_taken l calls (omega (arith, h))
any_taken l (Wrote port k offered (Count n) xs ∷ calls) h = refl
any_taken l (Wrote Pop k offered Later xs ∷ calls) h = any_taken l calls (omega (arith, h))
any_taken l (Wrote Pop k offered End xs ∷ calls) h = any_taken l calls (omega (arith, h))
any_taken l (Wrote Pop k offered Broken xs ∷ calls) h = any_taken l calls (omega (arith, h))
any_taken l (Wrote Admin k offered Later xs ∷ calls) h = any_taken l calls (omega (arith, h))
any_taken l (Wrote Admin k offered End xs ∷ calls) h = any_taken l calls (omega (arith, h))
any_taken l (Wrote Admin k offered Broken xs ∷ calls) h = any_taken l calls (omega (arith, h))
any_taken l (Closed port k ∷ calls) h = refl

any_taking : (l : Link) (calls : List Call) → 0 < length (filter (is_taking_of l) calls) → has_moved calls ≡ true
any_taking l [] h = absurd (omega (arith, h))
any_taking l (Waited n ∷ calls) h = any_taking l calls h
any_taking l (Accepted port None ∷ calls) h = any_taking l calls h
any_taking l (Accepted port (Some k) ∷ calls) h = refl
any_taking l (Looked port k io xs ∷ calls) h = any_taking l calls h
any_taking l (Read port k room (Count n) xs ∷ calls) h = refl
any_taking l (Read port k room Later xs ∷ calls) h = any_taking l calls h
any_taking l (Read port k room End xs ∷ calls) h = any_taking l calls h
any_taking l (Read port k room Broken xs ∷ calls) h = any_taking l calls h
any_taking l (Wrote port k offered (Count n) xs ∷ calls) h = refl
any_taking l (Wrote Pop k offered Later xs ∷ calls) h = any_taking l calls h
any_taking l (Wrote Pop k offered End xs ∷ calls) h = any_taking l calls h
any_taking l (Wrote Pop k offered Broken xs ∷ calls) h = any_taking l calls h
any_taking l (Wrote Admin k offered Later xs ∷ calls) h = any_taking l calls h
any_taking l (Wrote Admin k offered End xs ∷ calls) h = any_taking l calls h
any_taking l (Wrote Admin k offered Broken xs ∷ calls) h = any_taking l calls h
any_taking l (Closed port k ∷ calls) h = refl

share_if : (b : Bool) → 0 < (if b then 1048576 else 16384)
share_if true = omega arith
share_if false = omega arith

-- a link that was written its share
pub shared_moved : (l : Link) (links : ℕ) (calls : List Call) → (64 ≤ length (filter (is_taking_of l) calls)) ⊎ (share_by links ≤ octets_taken l calls) → has_moved calls ≡ true
shared_moved l links calls h =
    let some : 0 < share_by links = share_if _ in
    ⊎_elim
    (λ (k : 64 ≤ length (filter (is_taking_of l) calls)). any_taking l calls (omega (arith, k)))
    (λ (k : share_by links ≤ octets_taken l calls). any_taken l calls (omega (arith, k, some)))
    h

-- ---- what was written of a response

writes_moved : (l : Link) (r : List ℕ) (w w1 : ℕ) (calls : List Call) → AreWrites l r w calls w1 → w < w1 → has_moved calls ≡ true
writes_moved l r w w1 [] a h = absurd (omega (arith, a, h))
writes_moved l r w w1 (Wrote Admin k offered (Count n) octets ∷ calls) a h = refl
writes_moved l r w w1 (Wrote Admin k offered Later octets ∷ calls) a h = writes_moved l r w w1 calls a.2 h
writes_moved l r w w1 (Wrote Admin k offered End octets ∷ calls) a h = writes_moved l r w w1 calls a.2 h
writes_moved l r w w1 (Wrote Admin k offered Broken octets ∷ calls) a h = writes_moved l r w w1 calls a.2 h
writes_moved l r w w1 (Wrote Pop k offered io octets ∷ calls) a h = absurd a
writes_moved l r w w1 (Waited millis ∷ calls) a h = absurd a
writes_moved l r w w1 (Accepted port link ∷ calls) a h = absurd a
writes_moved l r w w1 (Looked port link io octets ∷ calls) a h = absurd a
writes_moved l r w w1 (Read port link room io octets ∷ calls) a h = absurd a
writes_moved l r w w1 (Closed port link ∷ calls) a h = absurd a

response_moved : (l : Link) (r : Option Response) (w w1 : ℕ) (calls : List Call) → AreWritesOf l r w calls w1 → w < w1 → has_moved calls ≡ true
response_moved l None w w1 calls a h = (let e = a.1 in absurd (omega (arith, e, h)))
response_moved l (Some r) w w1 calls a h = writes_moved l (octets_of r) w w1 calls a h

some_octets : (n : ℕ) → (n == 0) ≡ false → 0 < n
some_octets zero h = absurd (true≢false h)
some_octets (suc n) h = omega arith

-- a response that was written on
pub written_moved : (e e1 : Exchange) (times octets : ℕ) (calls : List Call) → (octets == 0) ≡ false → IsWrittenOf e e1 times octets calls → has_moved calls ≡ true
written_moved e e1 times octets calls some a =
    let more : 0 < octets = some_octets octets some in
    let grown = a.octets_are in
    response_moved e.link e.response e.written e1.written calls a.writes (omega (arith, more, grown))

-- while it is written, so many times at most
abbrev pub WritesSoFar : (e e1 : Exchange) (times octets : ℕ) (calls : List Call) → Type 0
WritesSoFar e e1 times octets calls = WrittenSoFar e e1 times octets calls × (0 < times → has_moved calls ≡ true) × (length calls ≤ times)

-- a link of the administration has more, or one before it does
pub admin_polled : (p q : Bool) (calls : List Call) → PollsBy false q calls → PollsBy p (p || q) calls
admin_polled p q calls a e = either p q (p || has_moved calls) (λ x. is_left p (has_moved calls) x) (λ x. is_right p (has_moved calls) (a x)) e

pub closed_polled : (p q : Bool) (c1 c2 : List Call) → PollsBy false q c1 → PollsBy p (p || q) (c1 ++ c2)
closed_polled p q c1 c2 a e = either p q (p || has_moved (c1 ++ c2)) (λ x. is_left p (has_moved (c1 ++ c2)) x) (λ x. is_right p (has_moved (c1 ++ c2)) (any_left is_moving c1 c2 (a x))) e

-- ---- the whole turn

-- where the links of neither port have more, the next turn waits
pub waits_then : (links : Links) → links.clients.poll_now ≡ false → links.requests.poll_now ≡ false → millis_of links ≡ 1000
waits_then links a b = rw a (rw b refl)

-- it doesn't wait for one of these
pub rests_so : (pl lock_released polled dealt ml mx m : Bool) → (pl ≡ true → (lock_released || ml) ≡ true) → (polled ≡ true → (pl || mx) ≡ true) → (ml ≡ true → m ≡ true) → (mx ≡ true → m ≡ true)
    → m ≡ false → lock_released ≡ false → dealt ≡ false → (polled || dealt) ≡ false
rests_so pl lock_released polled dealt ml mx m hl hx tl tx none_m none_f none_d =
    not_true (polled || dealt) (λ e.
    (let moved : m ≡ true → m ≡ true = λ q. q in
    true≢false (sym (either polled dealt m
    (λ x. either pl mx m (λ y. either lock_released ml m (λ z. absurd (true≢false (sym z ∙ none_f))) tl (hl y)) tx (hx x))
    (λ x. absurd (true≢false (sym x ∙ none_d)))
    e) ∙ none_m)))
