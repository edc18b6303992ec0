-- Rows of totals: which of them a change makes stale, and what they then stand for.
use Rattle.std.proofs.Common.{◌≡◌, ℕ, ◌<◌, ◌-◌, ◌^◌, Bool, true, false, ◌||◌, List, [], ◌∷◌, ◌++◌, length, drop, set, get_or, min, map, suc, zero, refl, sym, ◌∙◌, ap, ap₂, ⊎_elim, inl, inr, true≢false, append-nil, arith, cond}
use Rattle.std.specs.Prelude.{filter, not, ◌&&◌, sum_by, if◌then◌else◌}
use Rattle.std.specs.List.{list_any}
use Rattle.std.specs.Str.{bytes_eq}
use Rattle.std.proofs.lemmas.Bool.{cases_Bool, or_parts}
use Rattle.std.proofs.lemmas.List.Elements.{filter-append}
use Rattle.creds.specs.Names.{by_name, put_by_name, comes_before}
use Rattle.vault.specs.declared.answer.Total.{Total}
use Rattle.vault.specs.declared.record.Keyed.{Keyed}
use Rattle.vault.specs.Records.{is_one_of}
use Rattle.vault.specs.Changes.{Contents, kept_in, is_named, without_keys}
use Rattle.vault.specs.Plain.{capped_total}
use Rattle.vault.proofs.ListLemmas.{In, any_of, bytes_same, bytes_are}
use Rattle.recent.specs.declared.totals.KeptTotal.{KeptTotal}
use Rattle.recent.specs.Recalling.{fresh, stale_if, changed_in, counted_if, total_by}

-- ---- messages of other maildrops

left_out : {A : Type 0} (b : Bool) (x : A) (xs : List A) → b ≡ false → cond b (x ∷ xs) xs ≡ xs
left_out true x xs e = absurd (true≢false e)
left_out false x xs e = refl

apart_from : (d : List ℕ) (x : Keyed) (ms : List Keyed) → bytes_eq x.message.maildrop d ≡ false → kept_in d (ms ++ x ∷ []) ≡ kept_in d ms
apart_from d x ms e =
    filter-append (λ (y : Keyed). bytes_eq y.message.maildrop d) ms (x ∷ [])
    ∙ ap (λ (l : List Keyed). kept_in d ms ++ l) (left_out (bytes_eq x.message.maildrop d) x [] e)
    ∙ append-nil (kept_in d ms)

other_name : (a b d : List ℕ) → bytes_eq a d ≡ false → bytes_eq b d ≡ true → bytes_eq b a ≡ false
other_name a b d n y = ⊎_elim
    (λ (e : bytes_eq b a ≡ true). absurd (true≢false (sym y ∙ ap (λ (m : List ℕ). bytes_eq m d) (bytes_are b a e) ∙ n)))
    (λ (e : bytes_eq b a ≡ false). e)
    (cases_Bool (bytes_eq b a))

-- a message that was added to d is in no other maildrop
pub added_elsewhere : (n d : List ℕ) (x : Keyed) (ms : List Keyed) → bytes_eq n d ≡ false → x.message.maildrop ≡ d → kept_in n (ms ++ x ∷ []) ≡ kept_in n ms
added_elsewhere n d x ms apart e =
    apart_from n x ms (other_name n x.message.maildrop d apart (ap (λ (m : List ℕ). bytes_eq m d) e ∙ bytes_same d))

-- what one test keeps the other leaves
one_kept : {A : Type 0} (p : A → Bool) (x : A) (xs ys : List A) (b c : Bool) → p x ≡ b → (b ≡ true → c ≡ true) → filter p ys ≡ filter p xs
    → filter p (cond c (x ∷ ys) ys) ≡ filter p (x ∷ xs)
one_kept {A} p x xs ys true true e h r = ap (λ (l : List A). cond (p x) (x ∷ l) l) r
one_kept {A} p x xs ys false true e h r = ap (λ (l : List A). cond (p x) (x ∷ l) l) r
one_kept {A} p x xs ys true false e h r = absurd (true≢false (sym (h refl)))
one_kept {A} p x xs ys false false e h r = r ∙ sym (left_out (p x) x (filter p xs) e)

filter_twice : {A : Type 0} (p q : A → Bool) (xs : List A) → ((x : A) → p x ≡ true → q x ≡ true) → filter p (filter q xs) ≡ filter p xs
filter_twice p q [] h = refl
filter_twice p q (x ∷ xs) h = one_kept p x xs (filter q xs) (p x) (q x) refl (h x) (filter_twice p q xs h)

-- messages that were removed from d are in no other maildrop
pub removed_elsewhere : (n d keys : List ℕ) (ms : List Keyed) → bytes_eq n d ≡ false → kept_in n (without_keys d keys ms) ≡ kept_in n ms
removed_elsewhere n d keys ms apart = filter_twice
    (λ (x : Keyed). bytes_eq x.message.maildrop n) (λ (x : Keyed). not (bytes_eq x.message.maildrop d && is_named keys x.key)) ms
    (λ x e. stays (bytes_eq x.message.maildrop d) (is_named keys x.key) (of_n x e))
  where
    of_n : (x : Keyed) → bytes_eq x.message.maildrop n ≡ true → bytes_eq x.message.maildrop d ≡ false
    of_n x e = ap (λ (m : List ℕ). bytes_eq m d) (bytes_are x.message.maildrop n e) ∙ apart

    stays : (a b : Bool) → a ≡ false → not (a && b) ≡ true
    stays true b e = absurd (true≢false e)
    stays false b e = refl

-- ---- what rows stand for

-- the two lists of messages differ in one maildrop alone
abbrev pub DifferIn : List ℕ → (ms now : List Keyed) → Type 0
DifferIn d ms now = (n : List ℕ) → bytes_eq n d ≡ false → kept_in n now ≡ kept_in n ms

abbrev total_over : List ℕ → List Keyed → Total
total_over n xs = record { maildrop = n; messages = length xs; octets = min (sum_by (λ (x : Keyed). length x.message.text) xs) (2 ^ 64 - 1) }

total_same : (n : List ℕ) (ms now : List Keyed) → kept_in n now ≡ kept_in n ms → capped_total now n ≡ capped_total ms n
total_same n ms now e = ap (λ (xs : List Keyed). total_over n xs) e

its_name : (b : Bool) (t : Total) (ms : List Keyed) (n : List ℕ) → counted_if b t (capped_total ms t.maildrop) ≡ capped_total ms n → t.maildrop ≡ n
its_name true t ms n e = ap (λ (x : Total). x.maildrop) e
its_name false t ms n e = ap (λ (x : Total). x.maildrop) e

stands_on : (s : Bool) (t : Total) (n : List ℕ) (ms now : List Keyed) → t.maildrop ≡ n → kept_in n now ≡ kept_in n ms
    → counted_if s t (capped_total ms t.maildrop) ≡ capped_total ms n → counted_if s t (capped_total now t.maildrop) ≡ capped_total now n
stands_on true t n ms now i f e = ap (λ (m : List ℕ). capped_total now m) i
stands_on false t n ms now i f e = e ∙ sym (total_same n ms now f)

differs_if : (b : Bool) (d : List ℕ) (ms now : List Keyed) (row : KeptTotal) (n : List ℕ) → bytes_eq row.total.maildrop d ≡ b → DifferIn d ms now
    → row.total.maildrop ≡ n → total_by ms row ≡ capped_total ms n → total_by now (stale_if b row) ≡ capped_total now n
differs_if true d ms now row n k f i e = ap (λ (m : List ℕ). capped_total now m) i
differs_if false d ms now row n k f i e = stands_on row.is_stale row.total n ms now i (f n (ap (λ (m : List ℕ). bytes_eq m d) (sym i) ∙ k)) e

one_differs : (d : List ℕ) (ms now : List Keyed) (row : KeptTotal) (n : List ℕ) → DifferIn d ms now → total_by ms row ≡ capped_total ms n
    → total_by now (changed_in d row) ≡ capped_total now n
one_differs d ms now row n f e = differs_if (bytes_eq row.total.maildrop d) d ms now row n refl f (its_name row.is_stale row.total ms n e) e

pub rows_differ : (d : List ℕ) (ms now : List Keyed) (rows : List KeptTotal) (names : List (List ℕ)) → DifferIn d ms now
    → map (total_by ms) rows ≡ map (capped_total ms) names → map (total_by now) (map (changed_in d) rows) ≡ map (capped_total now) names
rows_differ d ms now [] [] f e = refl
rows_differ d ms now [] (n ∷ names) f e = let l = ap (λ (ts : List Total). length ts) e in absurd (omega (arith, l))
rows_differ d ms now (r ∷ rows) [] f e = let l = ap (λ (ts : List Total). length ts) e in absurd (omega (arith, l))
rows_differ d ms now (r ∷ rows) (n ∷ names) f e =
    ap₂ (λ (t : Total) (ts : List Total). t ∷ ts)
    (one_differs d ms now r n f (ap (λ (ts : List Total). get_or ts 0 (total_by ms r)) e))
    (rows_differ d ms now rows names f (ap (λ (ts : List Total). drop 1 ts) e))

-- rows that were made of totals stand for them
pub fresh_rows_are : (ms : List Keyed) (ts : List Total) → map (total_by ms) (map fresh ts) ≡ ts
fresh_rows_are ms [] = refl
fresh_rows_are ms (t ∷ ts) = ap (λ (l : List Total). t ∷ l) (fresh_rows_are ms ts)

-- rows of which none is stale are made of their totals
abbrev row_with : Total → Bool → KeptTotal
row_with t b = record { total = t; is_stale = b }

pub all_fresh : (rows : List KeptTotal) → list_any (λ (row : KeptTotal). row.is_stale) rows ≡ false → rows ≡ map fresh (map (λ (row : KeptTotal). row.total) rows)
all_fresh [] e = refl
all_fresh (r ∷ rows) e =
    let p = or_parts r.is_stale (list_any (λ (row : KeptTotal). row.is_stale) rows) e in
    ap₂ (λ (x : KeptTotal) (xs : List KeptTotal). x ∷ xs) (ap (λ (b : Bool). row_with r.total b) p.0) (all_fresh rows p.1)

-- a row takes the place of one that stood for the same
pub same_at : {A B : Type 0} (f : A → B) (xs : List A) (i : ℕ) (d y : A) → i < length xs → f y ≡ f (get_or xs i d) → map f (set xs i y) ≡ map f xs
same_at {A} {B} f [] i d y l e = absurd (omega (arith, l))
same_at {A} {B} f (x ∷ xs) zero d y l e = ap (λ (z : B). z ∷ map f xs) e
same_at {A} {B} f (x ∷ xs) (suc i) d y l e = ap (λ (zs : List B). f x ∷ zs) (same_at f xs i d y (omega (arith, l)) e)

-- ---- the maildrops of rows that fit are there

swap_or : (a b c : Bool) → (a || (b || c)) ≡ (b || (a || c))
swap_or true true c = refl
swap_or true false c = refl
swap_or false true c = refl
swap_or false false c = refl

put_if : (p : List ℕ → Bool) (b : Bool) (x y : List ℕ) (ys more : List (List ℕ)) → list_any p more ≡ (p x || list_any p ys)
    → list_any p (if b then y ∷ more else x ∷ y ∷ ys) ≡ (p x || list_any p (y ∷ ys))
put_if p true x y ys more h = ap (λ (t : Bool). p y || t) h ∙ swap_or (p y) (p x) (list_any p ys)
put_if p false x y ys more h = refl

any_put : (p : List ℕ → Bool) (x : List ℕ) (ys : List (List ℕ)) → list_any p (put_by_name x ys) ≡ (p x || list_any p ys)
any_put p x [] = refl
any_put p x (y ∷ ys) = put_if p (comes_before y x) x y ys (put_by_name x ys) (any_put p x ys)

any_by_name : (p : List ℕ → Bool) (xs : List (List ℕ)) → list_any p (by_name xs) ≡ list_any p xs
any_by_name p [] = refl
any_by_name p (x ∷ xs) = any_put p x (by_name xs) ∙ ap (λ (t : Bool). p x || t) (any_by_name p xs)

there : (n : List ℕ) (names : List (List ℕ)) → In n (by_name names) → is_one_of n names ≡ true
there n names i = sym (any_by_name (λ x. bytes_eq x n) names) ∙ any_of (λ x. bytes_eq x n) (by_name names) n i (bytes_same n)

listed_among : (ms : List Keyed) (all names : List (List ℕ)) (rows : List KeptTotal) → ((n : List ℕ) → In n names → is_one_of n all ≡ true)
    → map (total_by ms) rows ≡ map (capped_total ms) names → (i : ℕ) (d : KeptTotal) → i < length rows → is_one_of (get_or rows i d).total.maildrop all ≡ true
listed_among ms all names [] f e i d l = absurd (omega (arith, l))
listed_among ms all [] (r ∷ rows) f e i d l = let n = ap (λ (ts : List Total). length ts) e in absurd (omega (arith, n))
listed_among ms all (n ∷ names) (r ∷ rows) f e zero d l =
    ap (λ (m : List ℕ). is_one_of m all) (its_name r.is_stale r.total ms n (ap (λ (ts : List Total). get_or ts 0 (total_by ms r)) e)) ∙ f n (inl refl)
listed_among ms all (n ∷ names) (r ∷ rows) f e (suc i) d l =
    listed_among ms all names rows (λ m k. f m (inr k)) (ap (λ (ts : List Total). drop 1 ts) e) i d (omega (arith, l))

-- the maildrop of a row is there
pub listed : (c : Contents) (rows : List KeptTotal) → map (total_by c.messages) rows ≡ map (capped_total c.messages) (by_name c.maildrops)
    → (i : ℕ) (d : KeptTotal) → i < length rows → is_one_of (get_or rows i d).total.maildrop c.maildrops ≡ true
listed c rows e i d l = listed_among c.messages c.maildrops (by_name c.maildrops) rows (λ n k. there n c.maildrops k) e i d l
