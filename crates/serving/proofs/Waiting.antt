-- Links that wait for a turn at reading: how many had theirs before.
use Rattle.std.proofs.Common.{◌≡◌, ℕ, zero, suc, ◌+◌, ◌<◌, ◌≤◌, ◌^◌, min, nat_lt, nat_le, Bool, true, false, ◌&&◌, ◌||◌, ◌⊎◌, cond, List, [], ◌∷◌, map, length, set, refl, sym, ◌∙◌}
use Rattle.std.proofs.Common.{ap, arith, inl, inr, subst, lt-ltb, le-ltb, if◌then◌else◌}
use Rattle.std.specs.List.{filter, count_by}
use Rattle.std.proofs.lemmas.Bool.{false≢true, ltb-true, ltb-false, and_parts, and_from, or_parts}
use Rattle.std.proofs.lemmas.List.Recursion.{is_sum_by}
use Rattle.serving.specs.declared.sockets.Place.{Place}
use Rattle.serving.specs.Due.{presses, most_due, waiting_turns, before, is_due, turn_behind, chosen, chosen_of, ahead_of, NobodyIsPassedOver, Wait, PassesOver, NoMoreThanAFourth}

-- ---- counts

abbrev one : Bool → ℕ
one b = cond b 1 0

abbrev many : {X : Type 0} → (X → Bool) → List X → ℕ
many p [] = 0
many p (x ∷ xs) = one (p x) + many p xs

counted : {X : Type 0} (p : X → Bool) (xs : List X) → many p xs ≡ count_by p xs
counted p xs = is_sum_by (many p) (λ x. cond (p x) 1 0) refl (λ _ _. refl) xs

at_most : {X : Type 0} (f g h : X → Bool) → ((x : X) → one (f x) + one (g x) ≤ one (h x)) → (xs : List X) → many f xs + many g xs ≤ many h xs
at_most f g h each [] = omega arith
at_most f g h each (x ∷ xs) = let a = each x in let b = at_most f g h each xs in omega (arith, a, b)

one_below : (a b : Bool) → (a ≡ true → b ≡ true) → one a ≤ one b
one_below true true h = omega arith
one_below true false h = absurd (false≢true (h refl))
one_below false b h = omega arith

weaker : {X : Type 0} (p q : X → Bool) → ((x : X) → p x ≡ true → q x ≡ true) → (xs : List X) → many p xs ≤ many q xs
weaker p q each [] = omega arith
weaker p q each (x ∷ xs) = let a = one_below (p x) (q x) (each x) in let b = weaker p q each xs in omega (arith, a, b)

-- here is one that passes the first test and not the second
abbrev Found : {X : Type 0} → (p r : X → Bool) → Type 0
Found {X} p r = (x : X) × (p x ≡ true) × (r x ≡ false)

split_at : {X : Type 0} (p r : X → Bool) (x : X) (m n : ℕ) (a b : Bool) → p x ≡ a → r x ≡ b → (m ≤ n) ⊎ Found p r
    → (one a + m ≤ one (a && b) + n) ⊎ Found p r
split_at p r x m n true true i j (inl h) = inl (omega (arith, h))
split_at p r x m n true false i j (inl h) = inr (x, i, j)
split_at p r x m n false b i j (inl h) = inl (omega (arith, h))
split_at p r x m n a b i j (inr found) = inr found

-- each that passes the first test passes the second too, or one doesn't
split : {X : Type 0} (p r : X → Bool) (xs : List X) → (many p xs ≤ many (λ x. p x && r x) xs) ⊎ Found p r
split p r [] = inl (omega arith)
split p r (x ∷ xs) = split_at p r x (many p xs) (many (λ y. p y && r y) xs) (p x) (r x) refl refl (split p r xs)

-- those that pass a test, by what is told of each
told_at : {X : Type 0} (f : X → ℕ) (q : ℕ → Bool) (x : X) (ys : List X) (n : ℕ) (b : Bool) → many q (map f ys) ≡ n
    → many q (map f (cond b (x ∷ ys) ys)) ≡ one (b && q (f x)) + n
told_at f q x ys n true e = ap (λ k. one (q (f x)) + k) e
told_at f q x ys n false e = (let z : n ≡ 0 + n = omega arith in e ∙ z)

told : {X : Type 0} (f : X → ℕ) (p : X → Bool) (q : ℕ → Bool) (xs : List X) → many q (map f (filter p xs)) ≡ many (λ x. p x && q (f x)) xs
told f p q [] = refl
told f p q (x ∷ xs) = told_at f q x (filter p xs) (many (λ y. p y && q (f y)) xs) (p x) (told f p q xs)

all_told : {X : Type 0} (f : X → ℕ) (q : ℕ → Bool) (xs : List X) → many q (map f xs) ≡ many (λ x. q (f x)) xs
all_told f q [] = refl
all_told f q (x ∷ xs) = ap (λ n. one (q (f x)) + n) (all_told f q xs)

-- one takes the place of another, and doesn't pass
set_many : {X : Type 0} (p : X → Bool) (xs : List X) (i : ℕ) (y : X) → i < length xs → p y ≡ false → many p (set xs i y) ≤ many p xs
set_many p [] i y h e = absurd (omega (arith, h))
set_many p (x ∷ xs) zero y h e = let k = ap one e in omega (arith, k)
set_many p (x ∷ xs) (suc i) y h e = let k = set_many p xs i y (omega (arith, h)) e in omega (arith, k)

ahead_many : (turn : ℕ) (places : List Place) → ahead_of turn places ≡ many (λ (p : Place). nat_lt p.turn turn) places
ahead_many turn places = sym (counted (λ s. nat_lt s turn) (map (λ (p : Place). p.turn) places)) ∙ all_told (λ (p : Place). p.turn) (λ s. nat_lt s turn) places

-- a link that gets a place has no turn before those that had theirs
pub seated_behind : (turn turns at most : ℕ) (places : List Place) (i : ℕ) (p : Place) → i < length places → p.turn ≡ min (turns + at) most → turns ≤ most → turn < turns
    → ahead_of turn (set places i p) ≤ ahead_of turn places
seated_behind turn turns at most places i p within is fits less =
    let later : turn ≤ p.turn = omega (arith, is, fits, less) in
    let k = set_many (λ (q : Place). nat_lt q.turn turn) places i p within (le-ltb p.turn turn later) in
    let a = ahead_many turn places in
    let b = ahead_many turn (set places i p) in
    omega (arith, a, b, k)

-- ---- turns

-- a turn before this one, which has fewer than so many before itself
abbrev is_first : (m : ℕ) → List ℕ → (t s : ℕ) → Bool
is_first m turns t s = nat_lt s t && nat_lt (before s turns) m

first_earlier : (m : ℕ) (turns : List ℕ) (s t : ℕ) → s < t → (u : ℕ) → is_first m turns s u ≡ true → is_first m turns t u ≡ true
first_earlier m turns s t l u both =
    let b = and_parts (nat_lt u s) (nat_lt (before u turns) m) both in
    let k : u < s = ltb-true u s b.0 in
    and_from (nat_lt u t) (nat_lt (before u turns) m) (lt-ltb u t (omega (arith, k, l))) b.1

enough_by : (t m : ℕ) (turns : List ℕ) → ((s : ℕ) → s < t → m ≤ before s turns → m ≤ many (is_first m turns s) turns)
    → (many (λ s. nat_lt s t) turns ≤ many (is_first m turns t) turns) ⊎ Found (λ s. nat_lt s t) (λ s. nat_lt (before s turns) m)
    → m ≤ before t turns → m ≤ many (is_first m turns t) turns
enough_by t m turns earlier (inl all) h =
    let e : many (λ s. nat_lt s t) turns ≡ before t turns = counted (λ s. nat_lt s t) turns in
    omega (arith, e, all, h)
enough_by t m turns earlier (inr (s, i, j)) h =
    let l : s < t = ltb-true s t i in
    let some : m ≤ many (is_first m turns s) turns = earlier s l (ltb-false (before s turns) m j) in
    let more : many (is_first m turns s) turns ≤ many (is_first m turns t) turns =
    weaker (is_first m turns s) (is_first m turns t) (first_earlier m turns s t l) turns in
    omega (arith, some, more)

-- Of turns at least `m` of which were before this one, at least `m` were before it and have fewer
-- than `m` before themselves.
enough : (fuel t m : ℕ) (turns : List ℕ) → t ≤ fuel → m ≤ before t turns → m ≤ many (is_first m turns t) turns
enough zero t m turns within h =
    enough_by t m turns (λ s l k. absurd (omega (arith, l, within))) (split (λ s. nat_lt s t) (λ s. nat_lt (before s turns) m) turns) h
enough (suc fuel) t m turns within h =
    enough_by t m turns (λ s l k. enough fuel s m turns (omega (arith, l, within)) k) (split (λ s. nat_lt s t) (λ s. nat_lt (before s turns) m) turns) h

-- ---- places

later_by : (t behind own : ℕ) (due b : Bool) → t ≤ behind → nat_lt own t ≡ b
    → one (nat_lt (if due then behind else own) t) + one (b && due) ≤ one b
later_by t behind own true true l e = rw (le-ltb behind t l) (omega arith)
later_by t behind own true false l e = rw (le-ltb behind t l) (omega arith)
later_by t behind own false true l e = rw e (omega arith)
later_by t behind own false false l e = rw e (omega arith)

-- a link that is due comes behind those that wait, and another keeps its turn
later : (turns most t : ℕ) (waiting : List ℕ) → turns < 2 ^ 64 → t < turns → (p : Place)
    → one (nat_lt (chosen turns most waiting p).turn t) + one (nat_lt p.turn t && is_due most waiting p) ≤ one (nat_lt p.turn t)
later turns most t waiting fits early p =
    let l : t ≤ min (turns + p.at) 18446744073709551615 = omega (arith, fits, early) in
    later_by t (turn_behind turns p) p.turn (is_due most waiting p) (nat_lt p.turn t) l refl

four_of : (a b : Bool) → 4 ≤ (if a then 4 else if b then 8 else 160)
four_of true b = omega arith
four_of false true = omega arith
four_of false false = omega arith

-- where more press than are chosen from, none waits
none_waits : (b : Bool) (m t : ℕ) (turns : List ℕ) → 4 ≤ m → m ≤ before t (if b then turns else [])
    → (if b then turns else []) ≡ turns
none_waits true m t turns some h = refl
none_waits false m t turns some h = (let k : m ≤ 0 = h in absurd (omega (arith, some, k)))

not_first : (a b c : Bool) → a ≡ true → (a && (b || c)) ≡ false → c ≡ false
not_first true b c i e = (or_parts b c e).1
not_first false b c i e = absurd (false≢true i)

first_is_due : (a b c d : Bool) → (a && (c && d)) ≡ true → (c && (a && (b || d))) ≡ true
first_is_due true true true true e = refl
first_is_due true false true true e = refl
first_is_due true b true false e = absurd (false≢true e)
first_is_due true b false d e = absurd (false≢true e)
first_is_due false b c d e = absurd (false≢true e)

twice : (f : Place → Place) (ps : List Place) → map (λ p. (f p).turn) ps ≡ map (λ (p : Place). p.turn) (map f ps)
twice f [] = refl
twice f (p ∷ ps) = ap (λ ts. (f p).turn ∷ ts) (twice f ps)

-- how many places pass a test of their turns
by_turns : (f : Place → Place) (t : ℕ) (ps : List Place) → many (λ p. nat_lt (f p).turn t) ps ≡ ahead_of t (map f ps)
by_turns f t ps =
    sym (all_told (λ p. (f p).turn) (λ s. nat_lt s t) ps) ∙ (counted (λ s. nat_lt s t) (map (λ p. (f p).turn) ps)
    ∙ ap (λ ts. count_by (λ s. nat_lt s t) ts) (twice f ps))

by_own_turns : (t : ℕ) (ps : List Place) → many (λ p. nat_lt p.turn t) ps ≡ ahead_of t ps
by_own_turns t ps = sym (all_told (λ (p : Place). p.turn) (λ s. nat_lt s t) ps) ∙ counted (λ s. nat_lt s t) (map (λ (p : Place). p.turn) ps)

-- those that wait longer than a link that isn't due, and are due
due_before : (most t : ℕ) (places : List Place) (waiting : List ℕ) → waiting ≡ map (λ (q : Place). q.turn) (filter presses places) → most ≤ before t waiting
    → most ≤ many (λ q. nat_lt q.turn t && is_due most waiting q) places
due_before most t places waiting all rank =
    let enough_wait : most ≤ many (is_first most waiting t) waiting = enough t t most waiting (omega arith) rank in
    let of_places : many (is_first most waiting t) waiting ≡ many (λ q. presses q && is_first most waiting t q.turn) places =
    subst (λ w. many (is_first most waiting t) w ≡ many (λ q. presses q && is_first most waiting t q.turn) places) (sym all)
    (told (λ (q : Place). q.turn) presses (is_first most waiting t) places) in
    let due : many (λ q. presses q && is_first most waiting t q.turn) places ≤ many (λ q. nat_lt q.turn t && is_due most waiting q) places =
    weaker (λ q. presses q && is_first most waiting t q.turn) (λ q. nat_lt q.turn t && is_due most waiting q)
    (λ q h. first_is_due (presses q) q.is_ending (nat_lt q.turn t) (nat_lt (before q.turn waiting) most) h) places in
    omega (arith, enough_wait, of_places, due)

falls : (turns most t : ℕ) (waiting : List ℕ) (places : List Place) → turns < 2 ^ 64 → t < turns → 4 ≤ most
    → most ≤ many (λ q. nat_lt q.turn t && is_due most waiting q) places
    → ahead_of t (map (chosen turns most waiting) places) + 4 ≤ ahead_of t places
falls turns most t waiting places fits early some due =
    let fewer = at_most (λ q. nat_lt (chosen turns most waiting q).turn t) (λ q. nat_lt q.turn t && is_due most waiting q) (λ q. nat_lt q.turn t)
    (later turns most t waiting fits early) places in
    let after = by_turns (chosen turns most waiting) t places in
    let at_first = by_own_turns t places in
    omega (arith, some, due, fewer, after, at_first)

pub nobody : NobodyIsPassedOver
nobody turns places p fits early pressing passed =
    let pressing_now : ℕ = count_by presses places in
    let most : ℕ = most_due pressing_now in
    let waiting : List ℕ = waiting_turns places in
    let some : 4 ≤ most = four_of (nat_le pressing_now 20) (nat_le pressing_now 40) in
    let rank : most ≤ before p.turn waiting =
    ltb-false (before p.turn waiting) most (not_first (presses p) p.is_ending (nat_lt (before p.turn waiting) most) pressing passed) in
    let all : waiting ≡ map (λ (q : Place). q.turn) (filter presses places) =
    none_waits (nat_le pressing_now 40) most p.turn (map (λ (q : Place). q.turn) (filter presses places)) some rank in
    falls turns most p.turn waiting places fits early some (due_before most p.turn places waiting all rank)

-- ---- many waits

fewer_ahead : (turn : ℕ) (wait : Wait) → PassesOver turn wait → ahead_of turn (chosen_of wait.turns wait.places) + 4 ≤ ahead_of turn wait.places
fewer_ahead turn wait h =
    subst (λ t. ahead_of t (chosen_of wait.turns wait.places) + 4 ≤ ahead_of t wait.places) h.last
    (nobody wait.turns wait.places h.place h.fits (subst (λ t. t < wait.turns) (sym h.last) h.early) h.pressing h.passed)

pub a_fourth : NoMoreThanAFourth
a_fourth turn wait [] h = (let k = fewer_ahead turn wait h in omega (arith, k))
a_fourth turn wait (next ∷ waits) h =
    let k = fewer_ahead turn wait h.0 in
    let l = h.1 in
    let rest = a_fourth turn next waits h.2 in
    omega (arith, k, l, rest)
