-- Going round the names of a spool, in their order.
use Rattle.std.proofs.Common.{◌≡◌, ℕ, Bool, true, false, ◌&&◌, List, [], ◌∷◌, cond, refl, sym, ◌∙◌, subst, ⊎_elim, Option, Some, None, arith, true≢false}
use Rattle.std.specs.Prelude.{nat_lt, ◌==◌}
use Rattle.std.proofs.lemmas.Bool.{and_parts, cases_Bool}
use Rattle.std.proofs.lemmas.Bool.Decides.{nat_tests}
use Rattle.std.proofs.lemmas.List.Elements.{All-nil, All-cons, All-head, All-tail}
use Rattle.std.specs.List.{All}
use Rattle.creds.specs.Names.{comes_before}
use Rattle.serving.specs.declared.file_name.FileName.{FileName}
use Rattle.serving.specs.FileNames.{file_name_of, text_of}
use Rattle.serving.specs.NextNames.{is_file, is_behind, is_less, last_text, least_of, next_of, is_between, NoneIsPassedOver}
use Rattle.serving.proofs.NameTexts.{one_text}

-- ---- the order of texts

itself_at : (x : ℕ) (p : Bool) → p ≡ false → cond (x == x) p (nat_lt x x) ≡ false
itself_at x p h = grind (arith, nat_tests)

itself : (a : List ℕ) → comes_before a a ≡ false
itself [] = refl
itself (x ∷ xs) = itself_at x (comes_before xs xs) (itself xs)

-- of two only one comes before the other
one_way_at : (x y : ℕ) (p q : Bool) → (p ≡ true → q ≡ false) → cond (x == y) p (nat_lt x y) ≡ true → cond (y == x) q (nat_lt y x) ≡ false
one_way_at x y p q f h = grind (arith, nat_tests)

one_way : (a b : List ℕ) → comes_before a b ≡ true → comes_before b a ≡ false
one_way [] [] h = absurd (true≢false (sym h))
one_way [] (y ∷ ys) h = refl
one_way (x ∷ xs) [] h = absurd (true≢false (sym h))
one_way (x ∷ xs) (y ∷ ys) h = one_way_at x y (comes_before xs ys) (comes_before ys xs) (one_way xs ys) h

-- what isn't after x comes before what is
goes_first_at : (x y z : ℕ) (p q r : Bool) → (p ≡ true → q ≡ false → r ≡ true) → cond (x == y) p (nat_lt x y) ≡ true → cond (x == z) q (nat_lt x z) ≡ false
    → cond (z == y) r (nat_lt z y) ≡ true
goes_first_at x y z p q r f h k = grind (arith, nat_tests)

goes_first : (x a b : List ℕ) → comes_before x a ≡ true → comes_before x b ≡ false → comes_before b a ≡ true
goes_first [] [] b h k = absurd (true≢false (sym h))
goes_first [] (y ∷ ys) [] h k = refl
goes_first [] (y ∷ ys) (z ∷ zs) h k = absurd (true≢false k)
goes_first (x ∷ xs) [] b h k = absurd (true≢false (sym h))
goes_first (x ∷ xs) (y ∷ ys) [] h k = refl
goes_first (x ∷ xs) (y ∷ ys) (z ∷ zs) h k = goes_first_at x y z (comes_before xs ys) (comes_before xs zs) (comes_before zs ys) (goes_first xs ys zs) h k

-- what isn't before b isn't before a, which comes before b
still : (name a b : List ℕ) → comes_before a b ≡ true → comes_before name b ≡ false → comes_before name a ≡ false
still name a b less not_less =
    ⊎_elim
    (λ (h : comes_before name a ≡ true). absurd (true≢false (sym (goes_first name a b h not_less) ∙ one_way a b less)))
    (λ (h : comes_before name a ≡ false). h)
    (cases_Bool (comes_before name a))

-- ---- the least of the names that pass a test

is_this : {x t : List ℕ} → Some x ≡ Some t → x ≡ t
is_this e = cc

nothing_is : {t : List ℕ} → ◌≡◌ {A = Option (List ℕ)} None (Some t) → ⊥
nothing_is e = cc

with_true : (a : Bool) → (a && true) ≡ false → a ≡ false
with_true true h = absurd (true≢false h)
with_true false h = refl

-- no element is before it
abbrev IsFirst : (List ℕ → Bool) → List ℕ → List ℕ → Type 0
IsFirst p t name = p name ≡ true → comes_before name t ≡ false

least_in : (p : List ℕ → Bool) (names : List (List ℕ)) (t : List ℕ) → least_of p names ≡ Some t → (Q : List ℕ → Type 0) → All Q names → Q t
least_in p [] t e Q all = absurd (nothing_is e)
least_in p (x ∷ xs) t e Q all =
    ⊎_elim
    (λ (h : (p x && is_less x (least_of p xs)) ≡ true). (let same : Some x ≡ Some t = rw h at e in subst Q (is_this same) (All-head Q x xs all)))
    (λ (h : (p x && is_less x (least_of p xs)) ≡ false). (let rest : least_of p xs ≡ Some t = rw h at e in least_in p xs t rest Q (All-tail Q x xs all)))
    (cases_Bool (p x && is_less x (least_of p xs)))

passes : (p : List ℕ → Bool) (names : List (List ℕ)) (t : List ℕ) → least_of p names ≡ Some t → p t ≡ true
passes p [] t e = absurd (nothing_is e)
passes p (x ∷ xs) t e =
    ⊎_elim
    (λ (h : (p x && is_less x (least_of p xs)) ≡ true).
    (let same : Some x ≡ Some t = rw h at e in subst (λ y. p y ≡ true) (is_this same) (and_parts (p x) (is_less x (least_of p xs)) h).0))
    (λ (h : (p x && is_less x (least_of p xs)) ≡ false). (let rest : least_of p xs ≡ Some t = rw h at e in passes p xs t rest))
    (cases_Bool (p x && is_less x (least_of p xs)))

none_passes : (p : List ℕ → Bool) (names : List (List ℕ)) → least_of p names ≡ None → All (λ name. p name ≡ false) names
none_passes p [] e = All-nil (λ name. p name ≡ false)
none_passes p (x ∷ xs) e =
    ⊎_elim
    (λ (h : (p x && is_less x (least_of p xs)) ≡ true). (let some : ◌≡◌ {A = Option (List ℕ)} (Some x) None = rw h at e in absurd (nothing_is (sym some))))
    (λ (h : (p x && is_less x (least_of p xs)) ≡ false).
    (let rest : least_of p xs ≡ None = rw h at e in
    let first : (p x && true) ≡ false = rw rest at h in
    All-cons (λ name. p name ≡ false) x xs (with_true (p x) first) (none_passes p xs rest)))
    (cases_Bool (p x && is_less x (least_of p xs)))

-- a new least one, before that of the rest
less_than_all : (p : List ℕ → Bool) (x : List ℕ) (xs : List (List ℕ)) (o : Option (List ℕ)) → least_of p xs ≡ o → is_less x o ≡ true
    → ((m : List ℕ) → o ≡ Some m → All (IsFirst p m) xs) → All (IsFirst p x) xs
less_than_all p x xs None e less all = λ k d lt. λ h. absurd (true≢false (sym h ∙ none_passes p xs e k d lt))
less_than_all p x xs (Some m) e less all = λ k d lt. λ h. still _ x m less (all m refl k d lt h)

is_first : (p : List ℕ → Bool) (names : List (List ℕ)) (t : List ℕ) → least_of p names ≡ Some t → All (IsFirst p t) names
is_first p [] t e = All-nil (IsFirst p t)
is_first p (x ∷ xs) t e =
    ⊎_elim
    (λ (h : (p x && is_less x (least_of p xs)) ≡ true).
    (let same : Some x ≡ Some t = rw h at e in
    let less = (and_parts (p x) (is_less x (least_of p xs)) h).1 in
    let rest = less_than_all p x xs (least_of p xs) refl less (λ m is. is_first p xs m is) in
    subst (λ y. All (IsFirst p y) (x ∷ xs)) (is_this same) (All-cons (IsFirst p x) x xs (λ q. itself x) rest)))
    (λ (h : (p x && is_less x (least_of p xs)) ≡ false).
    (let rest : least_of p xs ≡ Some t = rw h at e in
    let first : IsFirst p t x = λ q. (rw (rest, q) at h) in
    All-cons (IsFirst p t) x xs first (is_first p xs t rest)))
    (cases_Bool (p x && is_less x (least_of p xs)))

-- ---- going round

-- the next name comes after the last one
before_it : (last t name : List ℕ) → comes_before last t ≡ true → is_file name ≡ true → (is_behind last name ≡ true → comes_before name t ≡ false) → is_between last t name ≡ false
before_it last t name follows file first =
    ⊎_elim
    (λ (h : comes_before last name ≡ true). (let behind : is_behind last name ≡ true = rw (file, h) refl in rw (follows, h) (first behind)))
    (λ (h : comes_before last name ≡ false). rw (follows, h) refl)
    (cases_Bool (comes_before last name))

-- none does, so that it is the least of all
behind_none : (last name : List ℕ) → is_file name ≡ true → is_behind last name ≡ false → comes_before last name ≡ false
behind_none last name file h = rw file at h

around : (last t name : List ℕ) → comes_before last t ≡ false → comes_before last name ≡ false → comes_before name t ≡ false → is_between last t name ≡ false
around last t name a b c = rw (a, b) c

found : (last : Option FileName) (names : List (List ℕ)) (next : FileName) (behind least : Option (List ℕ))
    → least_of (is_behind (last_text last)) names ≡ behind → least_of is_file names ≡ least → next_of last names ≡ Some next
    → All (λ name. is_file name ≡ true → is_between (last_text last) (text_of next) name ≡ false) names
found last names next (Some t) least b l e =
    let from = last_text last in
    let named : file_name_of t ≡ Some next = rw b at e in
    let text = (one_text t next named).1 in
    let follows = (and_parts (is_file t) (comes_before from t) (passes (is_behind from) names t b)).1 in
    let first = is_first (is_behind from) names t b in
    λ k d lt. λ file. rw text (before_it from t _ follows file (first k d lt))
found last names next None (Some t) b l e =
    let from = last_text last in
    let named : file_name_of t ≡ Some next = rw (b, l) at e in
    let text = (one_text t next named).1 in
    let none = none_passes (is_behind from) names b in
    let file_t = passes is_file names t l in
    let not_behind = behind_none from t file_t (least_in is_file names t l (λ name. is_behind from name ≡ false) none) in
    let first = is_first is_file names t l in
    λ k d lt. λ file. rw text (around from t _ not_behind (behind_none from _ file (none k d lt)) (first k d lt file))
found last names next None None b l e =
    let named : ◌≡◌ {A = Option FileName} None (Some next) = rw (b, l) at e in
    absurd (cc_none named) where
      cc_none : ◌≡◌ {A = Option FileName} None (Some next) → ⊥
      cc_none q = cc

pub none_is_passed_over : NoneIsPassedOver
none_is_passed_over last names next e =
    found last names next (least_of (is_behind (last_text last)) names) (least_of is_file names) refl refl e
