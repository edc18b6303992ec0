-- The rules of a key, walked from place to place.
use Rattle.std.proofs.Math.ListN.{drop_of_length-le}
use Rattle.std.proofs.lemmas.Bool.{and_parts}
use Rattle.std.proofs.lemmas.List.{drop-drop, get_or_default}
use Rattle.std.proofs.lemmas.List.Folds.{find_at}
use Rattle.std.proofs.lemmas.Slice.Eq.{bytes_eq-Decides}
use Rattle.std.proofs.Common.{◌≡◌, ℕ, suc, ◌+◌, ◌-◌, ◌<◌, ◌≤◌, Bool, true, false, not, ◌&&◌, ◌||◌, cond, List, [], ◌∷◌, length, drop, get_or, min, refl, sym, ap, true≢false, ◌∙◌}
use Rattle.std.proofs.Common.{arith, add-one, drop-cons}
use Rattle.std.specs.Prelude.{filter, find, slice_get}
use Rattle.std.specs.List.{position_or_len}
use Rattle.std.specs.Str.{bytes_eq}
use Rattle.policy.specs.declared.index.Index.{Index}
use Rattle.policy.specs.declared.key.Key.{Key}
use Rattle.policy.specs.declared.rule.Clerks.{Clerks}
use Rattle.policy.specs.declared.rule.Clerks.TheVariants as clerks
use Rattle.policy.specs.declared.rule.Pattern.{Pattern}
use Rattle.policy.specs.declared.rule.Pattern.TheVariants.{Any, Is}
use Rattle.policy.specs.declared.rule.Rule.{Rule}
use Rattle.policy.specs.Index.{same_clerks, same_pattern, key_of, has_key, place_from, IsIndexOf}

-- ---- places

-- a place from n on, and not after the end
pub place_from-ge : (p : Rule → Bool) (n : ℕ) (xs : List Rule) → n ≤ place_from p n xs
place_from-ge p n [] = omega arith
place_from-ge p n (x ∷ xs) = at (p x) (place_from-ge p (n + 1) xs)
  where
    at : (b : Bool) → n + 1 ≤ place_from p (n + 1) xs → n ≤ cond b n (place_from p (n + 1) xs)
    at true h = omega arith
    at false h = omega arith

pub place_from-le : (p : Rule → Bool) (n : ℕ) (xs : List Rule) → place_from p n xs ≤ n + length xs
place_from-le p n [] = omega arith
place_from-le p n (x ∷ xs) = at (p x) (place_from-le p (n + 1) xs)
  where
    at : (b : Bool) → place_from p (n + 1) xs ≤ n + 1 + length xs → cond b n (place_from p (n + 1) xs) ≤ n + suc (length xs)
    at true h = omega arith
    at false h = omega arith

pub place_from-congr : (p q : Rule → Bool) → ((r : Rule) → p r ≡ q r) → (n : ℕ) (xs : List Rule) → place_from p n xs ≡ place_from q n xs
place_from-congr p q e n [] = refl
place_from-congr p q e n (x ∷ xs) = rw (e x, place_from-congr p q e (n + 1) xs) refl

-- the first that passes one of two tests
pub place_from-or : (p q : Rule → Bool) (n : ℕ) (xs : List Rule) → place_from (λ r. p r || q r) n xs ≡ min (place_from p n xs) (place_from q n xs)
place_from-or p q n [] = omega arith
place_from-or p q n (x ∷ xs) = at (p x) (q x) (place_from-or p q (n + 1) xs) (place_from-ge p (n + 1) xs) (place_from-ge q (n + 1) xs)
  where
    at : (b c : Bool) → place_from (λ r. p r || q r) (n + 1) xs ≡ min (place_from p (n + 1) xs) (place_from q (n + 1) xs)
        → n + 1 ≤ place_from p (n + 1) xs → n + 1 ≤ place_from q (n + 1) xs
        → cond (b || c) n (place_from (λ r. p r || q r) (n + 1) xs) ≡ min (cond b n (place_from p (n + 1) xs)) (cond c n (place_from q (n + 1) xs))
    at true true h a b = omega arith
    at true false h a b = omega arith
    at false true h a b = omega arith
    at false false h a b = h

-- the place as std counts it
from_position : (p : Rule → Bool) (n : ℕ) (xs : List Rule) → place_from p n xs ≡ n + position_or_len p xs
from_position p n [] = omega arith
from_position p n (x ∷ xs) = at (p x) (from_position p (n + 1) xs)
  where
    at : (b : Bool) → place_from p (n + 1) xs ≡ n + 1 + position_or_len p xs → cond b n (place_from p (n + 1) xs) ≡ n + cond (not b) (1 + position_or_len p xs) 0
    at true h = omega arith
    at false h = omega arith

-- what stands at the first place
pub found_at : (p : Rule → Bool) (xs : List Rule) → find p xs ≡ slice_get xs (place_from p 0 xs)
found_at p xs = find_at p xs ∙ ap (slice_get xs) (sym (from_position p 0 xs ∙ omega arith))

-- ---- from one place to the next

-- what is passed over on the way to the first that passes h lacks h: the first of these rules has place n
record Skips (h q : Rule → Bool) (n : ℕ) (xs : List Rule) (to : ℕ) : Type 0 where
  same : place_from (λ r. h r && q r) n xs ≡ place_from (λ r. h r && q r) to (drop (to - n) xs)
  here : place_from h to (drop (to - n) xs) ≡ to
  as_many : length (filter h xs) ≡ length (filter h (drop (to - n) xs))

stays : (h q : Rule → Bool) (n : ℕ) (xs : List Rule) → place_from h n xs ≡ n → Skips h q n xs n
stays h q n xs e =
    let z : n - n ≡ 0 = omega arith in
    record {
      same = ap (λ (m : ℕ). place_from (λ r. h r && q r) n (drop m xs)) (sym z);
      here = ap (λ (m : ℕ). place_from h n (drop m xs)) z ∙ e;
      as_many = ap (λ (m : ℕ). length (filter h (drop m xs))) (sym z);
    }

skips : (h q : Rule → Bool) (n : ℕ) (xs : List Rule) → Skips h q n xs (place_from h n xs)
skips h q n [] = stays h q n [] refl
skips h q n (x ∷ xs) = at (h x) refl (skips h q (n + 1) xs) (place_from-ge h (n + 1) xs)
  where
    at : (b : Bool) → h x ≡ b → Skips h q (n + 1) xs (place_from h (n + 1) xs) → n + 1 ≤ place_from h (n + 1) xs
        → Skips h q n (x ∷ xs) (cond b n (place_from h (n + 1) xs))
    at true e s le = stays h q n (x ∷ xs) (rw e refl)
    at false e s le =
        let to = place_from h (n + 1) xs in
        let one : to - n ≡ suc (to - (n + 1)) = omega arith in
        record {
          same = rw (one, e) s.same;
          here = rw one s.here;
          as_many = rw (one, e) s.as_many;
        }

-- from place m on, the first that passes h is at `to`
record Reaches (h q : Rule → Bool) (m : ℕ) (rules : List Rule) (to : ℕ) : Type 0 where
  same : place_from (λ r. h r && q r) m (drop m rules) ≡ place_from (λ r. h r && q r) to (drop to rules)
  here : place_from h to (drop to rules) ≡ to
  as_many : length (filter h (drop m rules)) ≡ length (filter h (drop to rules))

reaches : (h q : Rule → Bool) (m : ℕ) (rules : List Rule) → Reaches h q m rules (place_from h m (drop m rules))
reaches h q m rules =
    let to = place_from h m (drop m rules) in
    let s = skips h q m (drop m rules) in
    let le = place_from-ge h m (drop m rules) in
    let sum : m + (to - m) ≡ to = omega arith in
    let at : drop (to - m) (drop m rules) ≡ drop to rules = drop-drop (to - m) m rules ∙ ap (λ (n : ℕ). drop n rules) sum in
    record {
      same = s.same ∙ ap (place_from (λ r. h r && q r) to) at;
      here = ap (place_from h to) (sym at) ∙ s.here;
      as_many = s.as_many ∙ ap (λ (rs : List Rule). length (filter h rs)) at;
    }

-- ---- the rules of one key

same_names : (a b : List ℕ) → bytes_eq a b ≡ true → a ≡ b
same_names a b e = (bytes_eq-Decides a b).0 e

same_patterns : (p q : Pattern) → same_pattern p q ≡ true → p ≡ q
same_patterns Any Any e = refl
same_patterns Any (Is b) e = absurd (true≢false (sym e))
same_patterns (Is a) Any e = absurd (true≢false (sym e))
same_patterns (Is a) (Is b) e = ap Is (same_names a b e)

same_clerks-is : (p q : Clerks) → same_clerks p q ≡ true → p ≡ q
same_clerks-is clerks.Any clerks.Any e = refl
same_clerks-is clerks.Any (clerks.Is b) e = absurd (true≢false (sym e))
same_clerks-is clerks.Any (clerks.MembersOf b) e = absurd (true≢false (sym e))
same_clerks-is (clerks.Is a) clerks.Any e = absurd (true≢false (sym e))
same_clerks-is (clerks.Is a) (clerks.Is b) e = ap clerks.Is (same_names a b e)
same_clerks-is (clerks.Is a) (clerks.MembersOf b) e = absurd (true≢false (sym e))
same_clerks-is (clerks.MembersOf a) clerks.Any e = absurd (true≢false (sym e))
same_clerks-is (clerks.MembersOf a) (clerks.Is b) e = absurd (true≢false (sym e))
same_clerks-is (clerks.MembersOf a) (clerks.MembersOf b) e = ap clerks.MembersOf (same_names a b e)

-- what has the key k has no other
key_is : (k : Key) (r : Rule) → has_key k r ≡ true → key_of r ≡ k
key_is k r e =
    let both = and_parts (same_clerks r.clerk k.clerk) (same_pattern r.maildrop k.maildrop) e in
    rw (same_clerks-is r.clerk k.clerk both.0, same_patterns r.maildrop k.maildrop both.1) refl

-- the walk stands at a place of the key, or after the end, and no rule before it is the one that is looked for
pub record Walks (h q : Rule → Bool) (rules : List Rule) (place : ℕ) : Type 0 where
  pub here : place_from h place (drop place rules) ≡ place
  pub same : place_from (λ r. h r && q r) 0 rules ≡ place_from (λ r. h r && q r) place (drop place rules)

pub walks_start : (h q : Rule → Bool) (rules : List Rule) (start : ℕ) → start ≡ place_from h 0 rules → Walks h q rules start
walks_start h q rules start e = let r = reaches h q 0 rules in rw e (record { here = r.here; same = r.same })

-- the walk stands at a rule that has the key
stands : (b : Bool) (place later : ℕ) → place + 1 ≤ later → cond b place later ≡ place → b ≡ true
stands true place later le e = refl
stands false place later le e = absurd (omega arith)

has_the_key : (h : Rule → Bool) (rules : List Rule) (place : ℕ) (r : Rule) → drop place rules ≡ r ∷ drop (place + 1) rules → place_from h place (drop place rules) ≡ place → h r ≡ true
has_the_key h rules place r there e =
    stands (h r) place (place_from h (place + 1) (drop (place + 1) rules)) (place_from-ge h (place + 1) (drop (place + 1) rules))
    (ap (place_from h place) (sym there) ∙ e)

standing : (rules : List Rule) (place : ℕ) (r : Rule) → place < length rules → r ≡ get_or rules place r → drop place rules ≡ r ∷ drop (place + 1) rules
standing rules place r lt e = rw (add-one, drop-cons rules place r) (ap (λ (x : Rule). x ∷ drop (suc place) rules) (sym e))

-- the next rule of the key of r
next_of : (k : Key) (r : Rule) (rules : List Rule) (place next : ℕ) → has_key k r ≡ true → r ≡ get_or rules place r
    → next ≡ place_from (has_key (key_of (get_or rules place r))) (place + 1) (drop (place + 1) rules) → next ≡ place_from (has_key k) (place + 1) (drop (place + 1) rules)
next_of k r rules place next e own n =
    n ∙ ap (λ (q : Key). place_from (has_key q) (place + 1) (drop (place + 1) rules)) (ap key_of (sym own) ∙ key_is k r e)

-- what the index has after a place
next_place : (rules : List Rule) (i : Index) (place : ℕ) (r : Rule) (x : ℕ) → IsIndexOf rules i → place < length rules → x ≡ get_or i.next.items place x
    → x ≡ place_from (has_key (key_of (get_or rules place r))) (place + 1) (drop (place + 1) rules)
next_place rules i place r x l lt e =
    let within : place < length i.next.items = omega (arith, l.one_each) in
    e ∙ get_or_default i.next.items place x 0 within ∙ l.nexts place r (omega arith) lt

-- a rule within the list
some_rule : (rules : List Rule) (place : ℕ) → place < length rules → Rule
some_rule [] place lt = absurd (omega arith)
some_rule (r ∷ rules) place lt = r

-- it is a later place
pub goes_on : (rules : List Rule) (i : Index) (place x : ℕ) → IsIndexOf rules i → place < length rules → x ≡ get_or i.next.items place x → place < x
goes_on rules i place x l lt e =
    let r = some_rule rules place lt in
    let h = has_key (key_of (get_or rules place r)) in
    omega (arith, next_place rules i place r x l lt e, place_from-ge h (place + 1) (drop (place + 1) rules))

-- one rule of the key that isn't the one
pub walks_on : (k : Key) (q : Rule → Bool) (rules : List Rule) (i : Index) (place next : ℕ) (r : Rule) → IsIndexOf rules i → place < length rules → r ≡ get_or rules place r → q r ≡ false
    → next ≡ get_or i.next.items place next → Walks (has_key k) q rules place → Walks (has_key k) q rules next
walks_on k q rules i place next r l lt own not_it n w =
    let h = has_key k in
    let there = standing rules place r lt own in
    let has = has_the_key h rules place r there w.here in
    let to = next_of k r rules place next has own (next_place rules i place r next l lt n) in
    let m = reaches h q (place + 1) rules in
    let passed : place_from (λ s. h s && q s) place (drop place rules) ≡ place_from (λ s. h s && q s) (place + 1) (drop (place + 1) rules) =
    ap (place_from (λ s. h s && q s) place) there ∙ rw (has, not_it) refl in
    rw to (record { here = m.here; same = w.same ∙ passed ∙ m.same })

-- the one is here
pub walks_found : (h q : Rule → Bool) (rules : List Rule) (place : ℕ) (r : Rule) → place < length rules → r ≡ get_or rules place r → q r ≡ true
    → Walks h q rules place → place ≡ place_from (λ s. h s && q s) 0 rules
walks_found h q rules place r lt own is_it w =
    let there = standing rules place r lt own in
    let has = has_the_key h rules place r there w.here in
    sym (w.same ∙ ap (place_from (λ s. h s && q s) place) there ∙ rw (has, is_it) refl)

-- there is none
pub walks_end : (h q : Rule → Bool) (rules : List Rule) (place : ℕ) → length rules ≤ place → Walks h q rules place → place ≡ place_from (λ s. h s && q s) 0 rules
walks_end h q rules place le w = sym (w.same ∙ ap (place_from (λ s. h s && q s) place) (drop_of_length-le rules le))
