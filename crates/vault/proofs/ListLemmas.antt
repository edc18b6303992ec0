-- Lists: what holds of each element, of some element, of no two elements, with one more at the end or with some left out.
use Rattle.std.proofs.Common.{◌≡◌, ℕ, ◌+◌, ◌≤◌, Bool, true, false, not, ◌&&◌, ◌||◌, ◌⊎◌, List, [], ◌∷◌, ◌++◌, length, cond, suc, refl, sym, ◌∙◌, ap, subst, ⊎_elim, inl, inr, true≢false, arith}
use Rattle.std.specs.Prelude.{filter, map, Option, Some, is_some}
use Rattle.std.specs.List.{list_any, list_all, find}
use Rattle.std.specs.Option.{option_map}
use Rattle.std.specs.Str.{bytes_eq}
use Rattle.std.proofs.lemmas.Bool.{cases_Bool, and_parts, or_from, or_parts}
use Rattle.std.proofs.lemmas.Slice.Eq.{bytes_eq-Decides}
use Rattle.policy.specs.Policy.{are_distinct}

-- an element of a list
abbrev pub In : {A : Type 0} → A → List A → Type 0
In x [] = ⊥
In x (y ∷ ys) = (x ≡ y) ⊎ In x ys

pub not_true : (b : Bool) → not b ≡ true → b ≡ false
not_true true e = absurd (true≢false (sym e))
not_true false e = refl

pub not_false : (b : Bool) → b ≡ false → not b ≡ true
not_false b e = rw e refl

pub bytes_same : (xs : List ℕ) → bytes_eq xs xs ≡ true
bytes_same xs = (bytes_eq-Decides xs xs).1 refl

pub bytes_are : (xs ys : List ℕ) → bytes_eq xs ys ≡ true → xs ≡ ys
bytes_are xs ys h = (bytes_eq-Decides xs ys).0 h

pub in_last : {A : Type 0} (xs : List A) (y x : A) → In x (xs ++ y ∷ []) → In x xs ⊎ (x ≡ y)
in_last [] y x h = ⊎_elim (λ e. inr e) (λ k. absurd k) h
in_last (z ∷ zs) y x h = ⊎_elim (λ e. inl (inl e)) (λ k. ⊎_elim (λ r. inl (inr r)) (λ e. inr e) (in_last zs y x k)) h

-- ---- some element

pub any_in : {A : Type 0} (p : A → Bool) (xs : List A) (x : A) → list_any p xs ≡ false → In x xs → p x ≡ false
any_in p [] x h i = absurd i
any_in p (y ∷ ys) x h i = let r = or_parts (p y) (list_any p ys) h in
    ⊎_elim (λ (e : x ≡ y). ap p e ∙ r.0) (λ k. any_in p ys x r.1 k) i

pub none_any : {A : Type 0} (p : A → Bool) (xs : List A) → ((x : A) → In x xs → p x ≡ false) → list_any p xs ≡ false
none_any p [] h = refl
none_any p (x ∷ xs) h = or_from (p x) (list_any p xs) (h x (inl refl)) (none_any p xs (λ y i. h y (inr i)))

or_true : (a b : Bool) → b ≡ true → (a || b) ≡ true
or_true true b e = refl
or_true false b e = e

or_first : (a b : Bool) → a ≡ true → (a || b) ≡ true
or_first a b e = rw e refl

pub any_of : {A : Type 0} (p : A → Bool) (xs : List A) (x : A) → In x xs → p x ≡ true → list_any p xs ≡ true
any_of p [] x i h = absurd i
any_of p (y ∷ ys) x i h = ⊎_elim
    (λ (e : x ≡ y). or_first (p y) (list_any p ys) (subst (λ z. p z ≡ true) e h))
    (λ k. or_true (p y) (list_any p ys) (any_of p ys x k h)) i

-- an element that passes, if one does
pub found : {A : Type 0} (p : A → Bool) (xs : List A) → list_any p xs ≡ true → (x : A) × In x xs × (p x ≡ true)
found p [] h = absurd (true≢false (sym h))
found p (x ∷ xs) h = ⊎_elim
    (λ (e : p x ≡ true). (x, inl refl, e))
    (λ (e : p x ≡ false). let r = found p xs (rw e at h) in (r.0, inr r.1, r.2))
    (cases_Bool (p x))

pub any_front : {A : Type 0} (p : A → Bool) (xs ys : List A) → list_any p xs ≡ true → list_any p (xs ++ ys) ≡ true
any_front p [] ys h = absurd (true≢false (sym h))
any_front p (x ∷ xs) ys h = ⊎_elim
    (λ (e : p x ≡ true). or_first (p x) (list_any p (xs ++ ys)) e)
    (λ (e : p x ≡ false). or_true (p x) (list_any p (xs ++ ys)) (any_front p xs ys (rw e at h)))
    (cases_Bool (p x))

-- ---- each element

pub all_in : {A : Type 0} (p : A → Bool) (xs : List A) (x : A) → list_all p xs ≡ true → In x xs → p x ≡ true
all_in p [] x h i = absurd i
all_in p (y ∷ ys) x h i = let r = and_parts (p y) (list_all p ys) h in
    ⊎_elim (λ (e : x ≡ y). ap p e ∙ r.0) (λ k. all_in p ys x r.1 k) i

and_true : (a b : Bool) → a ≡ true → b ≡ true → (a && b) ≡ true
and_true a b e f = rw (e, f) refl

pub all_of : {A : Type 0} (p : A → Bool) (xs : List A) → ((x : A) → In x xs → p x ≡ true) → list_all p xs ≡ true
all_of p [] h = refl
all_of p (x ∷ xs) h = and_true (p x) (list_all p xs) (h x (inl refl)) (all_of p xs (λ y i. h y (inr i)))

pub all_weaker : {A : Type 0} (p q : A → Bool) (xs : List A) → ((x : A) → In x xs → p x ≡ true → q x ≡ true) → list_all p xs ≡ true → list_all q xs ≡ true
all_weaker p q xs h a = all_of q xs (λ x i. h x i (all_in p xs x a i))

pub all_last : {A : Type 0} (p : A → Bool) (xs : List A) (n : A) → list_all p xs ≡ true → p n ≡ true → list_all p (xs ++ n ∷ []) ≡ true
all_last p xs n a h = all_of p (xs ++ n ∷ []) (λ x i. ⊎_elim (λ k. all_in p xs x a k) (λ (e : x ≡ n). ap p e ∙ h) (in_last xs n x i))

-- ---- some left out

keeps : {A : Type 0} (x y : A) (b : Bool) (xs : List A) → In x (cond b (y ∷ xs) xs) → ((x ≡ y) × (b ≡ true)) ⊎ In x xs
keeps x y true xs h = ⊎_elim (λ e. inl (e, refl)) (λ k. inr k) h
keeps x y false xs h = inr h

pub in_filter : {A : Type 0} (p : A → Bool) (xs : List A) (x : A) → In x (filter p xs) → In x xs × (p x ≡ true)
in_filter p [] x h = absurd h
in_filter p (y ∷ ys) x h = ⊎_elim
    (λ (e : (x ≡ y) × (p y ≡ true)). (inl e.0, ap p e.0 ∙ e.1))
    (λ k. let r = in_filter p ys x k in (inr r.0, r.1))
    (keeps x y (p y) (filter p ys) h)

kept_first : {A : Type 0} (x : A) (b : Bool) (xs : List A) → b ≡ true → In x (cond b (x ∷ xs) xs)
kept_first x b xs e = rw e (inl refl)

kept_later : {A : Type 0} (x y : A) (b : Bool) (xs : List A) → In x xs → In x (cond b (y ∷ xs) xs)
kept_later x y true xs i = inr i
kept_later x y false xs i = i

pub filter_in : {A : Type 0} (p : A → Bool) (xs : List A) (x : A) → In x xs → p x ≡ true → In x (filter p xs)
filter_in p [] x i h = absurd i
filter_in p (y ∷ ys) x i h = ⊎_elim
    (λ (e : x ≡ y). subst (λ z. In z (cond (p y) (y ∷ filter p ys) (filter p ys))) (sym e) (kept_first y (p y) (filter p ys) (ap p (sym e) ∙ h)))
    (λ k. kept_later x y (p y) (filter p ys) (filter_in p ys x k h)) i

pub all_filter : {A : Type 0} (p q : A → Bool) (xs : List A) → list_all p xs ≡ true → list_all p (filter q xs) ≡ true
all_filter p q xs a = all_of p (filter q xs) (λ x i. all_in p xs x a (in_filter q xs x i).0)

shorter : {A : Type 0} (x : A) (b : Bool) (xs : List A) (n : ℕ) → length xs ≤ n → length (cond b (x ∷ xs) xs) ≤ n + 1
shorter x true xs n h = omega arith
shorter x false xs n h = omega arith

pub filter_fits : {A : Type 0} (p : A → Bool) (xs : List A) → length (filter p xs) ≤ length xs
filter_fits p [] = omega arith
filter_fits p (x ∷ xs) = let h = shorter x (p x) (filter p xs) (length xs) (filter_fits p xs) in omega (arith, h)

found_first : {A : Type 0} (p q : A → Bool) (x : A) (xs : List A) (b : Bool) → find q (filter p xs) ≡ find (λ y. p y && q y) xs
    → find q (cond b (x ∷ filter p xs) (filter p xs)) ≡ cond (b && q x) (Some x) (find (λ y. p y && q y) xs)
found_first p q x xs true h = ap (λ o. cond (q x) (Some x) o) h
found_first p q x xs false h = h

pub find-filter : {A : Type 0} (p q : A → Bool) (xs : List A) → find q (filter p xs) ≡ find (λ x. p x && q x) xs
find-filter p q [] = refl
find-filter p q (x ∷ xs) = found_first p q x xs (p x) (find-filter p q xs)

-- ---- no two elements

apart : (b c : Bool) → b ≡ false → c ≡ true → (not b && c) ≡ true
apart b c e f = rw (e, f) refl

pub distinct_last : {A : Type 0} (same : A → A → Bool) (xs : List A) (n : A) → are_distinct same xs ≡ true
    → ((x : A) → In x xs → same x n ≡ false) → are_distinct same (xs ++ n ∷ []) ≡ true
distinct_last same [] n h o = refl
distinct_last same (x ∷ xs) n h o =
    let p = and_parts (not (list_any (same x) xs)) (are_distinct same xs) h in
    apart (list_any (same x) (xs ++ n ∷ [])) (are_distinct same (xs ++ n ∷ []))
    (none_any (same x) (xs ++ n ∷ []) (λ y i. ⊎_elim
    (λ k. any_in (same x) xs y (not_true (list_any (same x) xs) p.0) k)
    (λ (e : y ≡ n). ap (same x) e ∙ o x (inl refl))
    (in_last xs n y i)))
    (distinct_last same xs n p.1 (λ r i. o r (inr i)))

distinct_at : {A : Type 0} (same : A → A → Bool) (p : A → Bool) (x : A) (xs : List A) (b : Bool) → are_distinct same (filter p xs) ≡ true
    → list_any (same x) xs ≡ false → are_distinct same (cond b (x ∷ filter p xs) (filter p xs)) ≡ true
distinct_at same p x xs true h a = apart (list_any (same x) (filter p xs)) (are_distinct same (filter p xs))
    (none_any (same x) (filter p xs) (λ y i. any_in (same x) xs y a (in_filter p xs y i).0)) h
distinct_at same p x xs false h a = h

pub distinct_filter : {A : Type 0} (same : A → A → Bool) (p : A → Bool) (xs : List A) → are_distinct same xs ≡ true → are_distinct same (filter p xs) ≡ true
distinct_filter same p [] h = refl
distinct_filter same p (x ∷ xs) h =
    let r = and_parts (not (list_any (same x) xs)) (are_distinct same xs) h in
    distinct_at same p x xs (p x) (distinct_filter same p xs r.1) (not_true (list_any (same x) xs) r.0)

-- ---- lists and what a function makes of their elements

mapped_kept : {A B : Type 0} (f : A → B) (p : B → Bool) (x : A) (xs : List A) (b : Bool) → filter p (map f xs) ≡ map f (filter (λ y. p (f y)) xs)
    → cond b (f x ∷ filter p (map f xs)) (filter p (map f xs)) ≡ map f (cond b (x ∷ filter (λ y. p (f y)) xs) (filter (λ y. p (f y)) xs))
mapped_kept f p x xs true h = ap (λ ys. f x ∷ ys) h
mapped_kept f p x xs false h = h

pub filter-map : {A B : Type 0} (f : A → B) (p : B → Bool) (xs : List A) → filter p (map f xs) ≡ map f (filter (λ x. p (f x)) xs)
filter-map f p [] = refl
filter-map f p (x ∷ xs) = mapped_kept f p x xs (p (f x)) (filter-map f p xs)

pub length-map : {A B : Type 0} (f : A → B) (xs : List A) → length (map f xs) ≡ length xs
length-map f [] = refl
length-map f (x ∷ xs) = ap (λ n. suc n) (length-map f xs)

pub map-append : {A B : Type 0} (f : A → B) (xs ys : List A) → map f (xs ++ ys) ≡ map f xs ++ map f ys
map-append f [] ys = refl
map-append f (x ∷ xs) ys = ap (λ zs. f x ∷ zs) (map-append f xs ys)

pub in_map : {A B : Type 0} (f : A → B) (xs : List A) (y : B) → In y (map f xs) → (x : A) × In x xs × (y ≡ f x)
in_map f [] y i = absurd i
in_map f (x ∷ xs) y i = ⊎_elim (λ (e : y ≡ f x). (x, inl refl, e)) (λ k. let r = in_map f xs y k in (r.0, inr r.1, r.2)) i

pub map_in : {A B : Type 0} (f : A → B) (xs : List A) (x : A) → In x xs → In (f x) (map f xs)
map_in f [] x i = absurd i
map_in f (y ∷ ys) x i = ⊎_elim (λ (e : x ≡ y). inl (ap f e)) (λ k. inr (map_in f ys x k)) i

pub list_any-map : {A B : Type 0} (f : A → B) (p : B → Bool) (xs : List A) → list_any p (map f xs) ≡ list_any (λ x. p (f x)) xs
list_any-map f p [] = refl
list_any-map f p (x ∷ xs) = ap (λ b. p (f x) || b) (list_any-map f p xs)

-- distinct as what a function makes of them
pub distinct-map : {A B : Type 0} (f : A → B) (same : B → B → Bool) (xs : List A) → are_distinct same (map f xs) ≡ are_distinct (λ x y. same (f x) (f y)) xs
distinct-map f same [] = refl
distinct-map f same (x ∷ xs) =
    let a = list_any-map f (same (f x)) xs in
    let b = distinct-map f same xs in
    cc

pub distinct_alike : {A : Type 0} (same like : A → A → Bool) → ((x y : A) → same x y ≡ like x y) → (xs : List A) → are_distinct same xs ≡ are_distinct like xs
distinct_alike same like h [] = refl
distinct_alike same like h (x ∷ xs) =
    let a = any_alike (same x) (like x) (h x) xs in
    let b = distinct_alike same like h xs in
    cc
  where
    any_alike : {A : Type 0} (p q : A → Bool) → ((x : A) → p x ≡ q x) → (xs : List A) → list_any p xs ≡ list_any q xs
    any_alike p q h [] = refl
    any_alike p q h (x ∷ xs) = let a = h x in let b = any_alike p q h xs in cc

-- ---- how many are kept

pub none_kept : {A : Type 0} (p : A → Bool) (xs : List A) → length (filter p xs) ≡ 0 → (x : A) → In x xs → p x ≡ false
none_kept p [] h x i = absurd i
none_kept p (y ∷ ys) h x i = ⊎_elim
    (λ (t : p y ≡ true). absurd (some_left (p y) y (filter p ys) t h))
    (λ (f : p y ≡ false). ⊎_elim (λ (e : x ≡ y). ap p e ∙ f) (λ k. none_kept p ys (rest (p y) y (filter p ys) f h) x k) i)
    (cases_Bool (p y))
  where
    some_left : {A : Type 0} (b : Bool) (y : A) (ys : List A) → b ≡ true → length (cond b (y ∷ ys) ys) ≡ 0 → ⊥
    some_left true y ys e h = omega arith
    some_left false y ys e h = true≢false (sym e)

    rest : {A : Type 0} (b : Bool) (y : A) (ys : List A) → b ≡ false → length (cond b (y ∷ ys) ys) ≡ 0 → length ys ≡ 0
    rest true y ys e h = absurd (true≢false e)
    rest false y ys e h = h

-- a list that leaves some out keeps no more of what passes
kept_both : {A : Type 0} (p : A → Bool) (x : A) (ys zs : List A) (b : Bool) → length (filter p ys) ≤ length (filter p zs)
    → length (filter p (cond b (x ∷ ys) ys)) ≤ length (filter p (x ∷ zs))
kept_both p x ys zs true h = at (p x) x (filter p ys) (filter p zs) h
  where
    at : {A : Type 0} (c : Bool) (x : A) (ys zs : List A) → length ys ≤ length zs → length (cond c (x ∷ ys) ys) ≤ length (cond c (x ∷ zs) zs)
    at true x ys zs h = omega arith
    at false x ys zs h = h
kept_both p x ys zs false h = at (p x) x (filter p ys) (filter p zs) h
  where
    at : {A : Type 0} (c : Bool) (x : A) (ys zs : List A) → length ys ≤ length zs → length ys ≤ length (cond c (x ∷ zs) zs)
    at true x ys zs h = omega arith
    at false x ys zs h = h

pub both_fit : {A : Type 0} (p q : A → Bool) (xs : List A) → length (filter p (filter q xs)) ≤ length (filter p xs)
both_fit p q [] = omega arith
both_fit p q (x ∷ xs) = kept_both p x (filter q xs) xs (q x) (both_fit p q xs)

-- none of a find is none that passes
pub found_none : {A B : Type 0} (f : A → B) (p : A → Bool) (xs : List A) → is_some (option_map f (find p xs)) ≡ list_any p xs
found_none f p [] = refl
found_none f p (x ∷ xs) = at f (p x) x (find p xs) (list_any p xs) (found_none f p xs)
  where
    at : {A B : Type 0} (f : A → B) (b : Bool) (x : A) (o : Option A) (r : Bool) → is_some (option_map f o) ≡ r → is_some (option_map f (cond b (Some x) o)) ≡ (b || r)
    at f true x o r h = refl
    at f false x o r h = h
