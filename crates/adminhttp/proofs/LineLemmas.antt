-- A scan of lines.
use Rattle.std.proofs.Common.{◌≡◌, ℕ, ◌+◌, ◌<◌, ◌≤◌, ◌==◌, ◌&&◌, nat_lt, Bool, true, false, if◌then◌else◌, List, [], ◌∷◌, length, get_or, drop, Option, Some, None}
use Rattle.std.proofs.Common.{option_map, refl, ap, subst, arith}
use Rattle.std.proofs.lemmas.Grind.{common_steps}
use Rattle.std.proofs.lemmas.Bool.Decides.{nat_tests}
use Rattle.std.proofs.lemmas.List.{drop_more}
use Rattle.std.proofs.Math.ListN.{drop_of_length-le}
use Rattle.adminhttp.specs.Lines.{empty_line, empty_lines, through_empty_line}

-- counting on from i
pub counting : (i : ℕ) (o : Option ℕ) → option_map (λ n. i + n) (option_map (λ n. 1 + n) o) ≡ option_map (λ n. (i + 1) + n) o
counting i None = refl
counting i (Some n) = ap Some (omega arith)

pub counting_zero : (o : Option ℕ) → option_map (λ n. 0 + n) o ≡ o
counting_zero None = refl
counting_zero (Some n) = ap Some (omega arith)

-- a text with an element at i is that element and what stands after it
shown : (xs : List ℕ) (i : ℕ) → i < length xs → drop i xs ≡ get_or xs i 0 ∷ drop (i + 1) xs
shown xs i h = drop_more xs i 0 h

through_stop : (fresh : Bool) (b : ℕ) (rest : List ℕ) → 0 < (if fresh then empty_line (b ∷ rest) else 0)
    → through_empty_line fresh (b ∷ rest) ≡ Some (if fresh then empty_line (b ∷ rest) else 0)
unfolding through_empty_line
through_stop true b rest h = let e : nat_lt 0 (empty_line (b ∷ rest)) ≡ true = grind (arith, nat_tests) in rw e refl
through_stop false b rest h = absurd (omega arith)

through_next : (fresh : Bool) (b : ℕ) (rest : List ℕ) → (if fresh then empty_line (b ∷ rest) else 0) ≤ 0
    → through_empty_line fresh (b ∷ rest) ≡ option_map (λ n. 1 + n) (through_empty_line (b == 10) rest)
unfolding through_empty_line
through_next true b rest h = let e : nat_lt 0 (empty_line (b ∷ rest)) ≡ false = grind (arith, nat_tests) in rw e refl
through_next false b rest h = refl

pub head_stop : (fresh : Bool) (xs : List ℕ) (i n : ℕ) → i < length xs → n ≡ (if fresh then empty_line (drop i xs) else 0) → 0 < n
    → option_map (λ n. i + n) (through_empty_line fresh (drop i xs)) ≡ Some (i + n)
head_stop fresh xs i n h is some =
    let e = shown xs i h in
    let more : 0 < (if fresh then empty_line (get_or xs i 0 ∷ drop (i + 1) xs) else 0) = subst (λ (m : ℕ). 0 < m) (rw e at is) some in
    rw (is, e, through_stop fresh (get_or xs i 0) (drop (i + 1) xs) more) refl

pub head_next : (fresh : Bool) (xs : List ℕ) (i n : ℕ) → i < length xs → n ≡ (if fresh then empty_line (drop i xs) else 0) → n ≤ 0
    → option_map (λ n. i + n) (through_empty_line fresh (drop i xs)) ≡ option_map (λ n. (i + 1) + n) (through_empty_line (get_or xs i 0 == 10) (drop (i + 1) xs))
head_next fresh xs i n h is none =
    let e = shown xs i h in
    let less : (if fresh then empty_line (get_or xs i 0 ∷ drop (i + 1) xs) else 0) ≤ 0 = subst (λ (m : ℕ). m ≤ 0) (rw e at is) none in
    rw (e, through_next fresh (get_or xs i 0) (drop (i + 1) xs) less) (counting i _)

pub head_none : (fresh : Bool) (xs : List ℕ) (i : ℕ) → length xs ≤ i → option_map (λ n. i + n) (through_empty_line fresh (drop i xs)) ≡ None
unfolding through_empty_line
head_none fresh xs i h = rw (drop_of_length-le xs h)

abbrev both : Bool → ℕ → ℕ → ℕ
both u m n = if u then m else n

-- the first empty line, and those after it
pub empty_lines_more : (xs : List ℕ) → empty_lines xs ≡ empty_line xs + empty_lines (drop (empty_line xs) xs)
unfolding empty_lines
empty_lines_more [] = refl
empty_lines_more (b ∷ []) = by (b == 10) refl
  where
    by : (u : Bool) → (b == 10) ≡ u → empty_lines (b ∷ []) ≡ empty_line (b ∷ []) + empty_lines (drop (empty_line (b ∷ [])) (b ∷ []))
    by true e = rw e refl
    by false e = let none : empty_line (b ∷ []) ≡ 0 = rw e refl in rw none (omega arith)
empty_lines_more (b ∷ c ∷ rest) = by (b == 10) refl (b == 13 && c == 10) refl
  where
    by : (u : Bool) → (b == 10) ≡ u → (v : Bool) → (b == 13 && c == 10) ≡ v
        → empty_lines (b ∷ c ∷ rest) ≡ empty_line (b ∷ c ∷ rest) + empty_lines (drop (empty_line (b ∷ c ∷ rest)) (b ∷ c ∷ rest))
    by true e v q = rw e refl
    by false e true q = rw (e, q) refl
    by false e false q = let none : empty_line (b ∷ c ∷ rest) ≡ 0 = rw (e, q) refl in rw none (omega arith)

pub no_empty_lines : (xs : List ℕ) → empty_line xs ≡ 0 → empty_lines xs ≡ 0
unfolding empty_lines
no_empty_lines [] h = refl
no_empty_lines (b ∷ []) h = h
no_empty_lines (b ∷ c ∷ rest) h = by (b == 10) (b == 13 && c == 10) h
  where
    by : (u v : Bool) → both u 1 (both v 2 0) ≡ 0 → both u (1 + empty_lines (c ∷ rest)) (both v (2 + empty_lines rest) 0) ≡ 0
    by true v h = absurd (omega arith)
    by false true h = absurd (omega arith)
    by false false h = refl

pub lines_passed : (xs : List ℕ) (at n : ℕ) → n ≡ empty_line (drop at xs) → empty_lines xs ≡ at + empty_lines (drop at xs)
    → empty_lines xs ≡ (at + n) + empty_lines (drop (at + n) xs)
lines_passed xs at n is h =
    let more : empty_lines (drop at xs) ≡ n + empty_lines (drop n (drop at xs)) = rw is (empty_lines_more (drop at xs)) in
    let joined : drop n (drop at xs) ≡ drop (at + n) xs = grind (arith, common_steps) in
    let there = rw joined at more in
    omega (arith, h, there)

pub lines_end : (xs : List ℕ) (at : ℕ) → length xs ≤ at → empty_lines xs ≡ at + empty_lines (drop at xs) → empty_lines xs ≡ at
unfolding empty_lines
lines_end xs at none h =
    let there = rw (drop_of_length-le xs none) at h in
    omega (arith, there)
