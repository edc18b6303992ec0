-- The rows of deposits and of counts are sound deposits exactly if the numbers of the deposits are those that the counts ask for.
use Rattle.std.proofs.Common.{◌≡◌, inl, inr, ℕ, zero, suc, ℤ, pos, negsuc, ◌+◌, ◌<◌, ◌≤◌, Bool, true, false, not, cond, ◌&&◌, ◌||◌, ◌⊎◌, List, [], ◌∷◌, ◌++◌, length, map, Option}
use Rattle.std.proofs.Common.{Some, None, refl, sym, ap, subst, ◌∙◌, arith, ⊎_elim, true≢false}
use Rattle.std.specs.Prelude.{◌==◌, nat_le, nat_lt, filter, flat_map, find, sum_by}
use Rattle.std.specs.Str.{bytes_eq}
use Rattle.std.specs.List.{list_any, list_all, range_with_len}
use Rattle.std.specs.List.Sorted.{IsPermutation}
use Rattle.std.proofs.lemmas.Bool.{cases_Bool, and_parts, or_parts}
use Rattle.std.proofs.lemmas.List.{length-append}
use Rattle.std.proofs.lemmas.List.Elements.{filter-append}
use Rattle.std.proofs.lemmas.List.FromFn.{length-range_with_len}
use Rattle.std.proofs.lemmas.List.Sums.{sum_by-cons}
use Rattle.std.proofs.lemmas.List.Sorted.{IsPermutation-sym, length_permutation}
use Rattle.sqlite_trees.proofs.ListLemmas.{along_permutation, map-map}
use Rattle.creds.specs.Names.{is_name, is_deposit_id}
use Rattle.policy.specs.Policy.{are_distinct}
use Rattle.vault.specs.declared.record.Receipt.{Receipt}
use Rattle.vault.specs.Records.{receipts_of, class_count, same_id, same_uid, is_counted, is_sound_receipt, most_deposits}
use Rattle.vault.proofs.ListLemmas.{In, bytes_same, bytes_are, not_true, not_false, none_any, any_in, all_in, all_of, in_map, map_in, distinct-map, filter-map, length-map}
use Rattle.mailsql.specs.declared.rows.Count.{Count}
use Rattle.mailsql.specs.declared.rows.Deposit.{Deposit}
use Rattle.mailsql.specs.Columns.{Name, Rows}
use Rattle.mailsql.specs.Rows.{is_count}
use Rattle.mailsql.specs.Apart.{AreApart, are_apart}
use Rattle.sqlvault.specs.Keeps.{deposit_row, number_in, count_in}
use Rattle.sqlvault.specs.Numbers.{Number, has_number, natural, number_of, is_deposit_row, is_within, numbers_to, has_all, is_filled, asked, are_sound_rows}
use Rattle.sqlvault.specs.Parts.{Finds, DepositsAre, records_with}
use Rattle.sqlvault.proofs.PermutationLemmas.{filter_permuted}
use Rattle.sqlvault.proofs.RemoveLemmas.{num_same, num_itself}
use Rattle.sqlvault.proofs.NumberLemmas.{Differ, in_permuted, no_more, as_many, range_differs, Parts, parts, count_is_length, same_uid_of, number_of_class}
use Rattle.sqlvault.proofs.HasNumberLemmas.{number_is, has_of, of_has, in_numbers, IsNumberOf, numbers_in}
use Rattle.sqlvault.proofs.SmallLemmas.{both_hold, in_either, nat_le-true, in_left, le-nat_le, lt-nat_lt, apart_distinct, in_right, filter_twice, nat_lt-true}

-- ---- tests

-- ---- names that are equal

names_same : (a b : Name) → a ≡ b → bytes_eq a b ≡ true
names_same a b e = subst (λ n. bytes_eq a n ≡ true) e (bytes_same a)

-- two counts of one class
abbrev same_count : Count → Count → Bool
same_count a b = bytes_eq a.maildrop b.maildrop && bytes_eq a.class b.class

same_count_of : (a b : Count) → a.maildrop ≡ b.maildrop → a.class ≡ b.class → same_count a b ≡ true
same_count_of a b e f = both_hold (bytes_eq a.maildrop b.maildrop) (bytes_eq a.class b.class) (names_same a.maildrop b.maildrop e) (names_same a.class b.class f)

count_names : (d class : Name) (c : Count) → is_count d class c ≡ true → (c.maildrop ≡ d) × (c.class ≡ class)
count_names d class c h = let p = and_parts (bytes_eq c.maildrop d) (bytes_eq c.class class) h in (bytes_are c.maildrop d p.0, bytes_are c.class class p.1)

is_its_count : (d class : Name) (c : Count) → c.maildrop ≡ d → c.class ≡ class → is_count d class c ≡ true
is_its_count d class c e f = both_hold (bytes_eq c.maildrop d) (bytes_eq c.class class) (names_same c.maildrop d e) (names_same c.class class f)

-- ---- the count of a class

found_in : {X : Type 0} (p : X → Bool) (xs : List X) (x : X) → find p xs ≡ Some x → In x xs × (p x ≡ true)
found_in p [] x e = cc
found_in {X} p (y ∷ ys) x e = ⊎_elim
    (λ (t : p y ≡ true). let same : y ≡ x = here (p y) t e in (inl (sym same), subst (λ z. p z ≡ true) same t))
    (λ (f : p y ≡ false). let r = found_in p ys x (later (p y) f e) in (inr r.0, r.1))
    (cases_Bool (p y))
  where
    here : (b : Bool) → b ≡ true → cond b (Some y) (find p ys) ≡ Some x → y ≡ x
    here true t e = cc
    here false t e = absurd (true≢false (sym t))

    later : (b : Bool) → b ≡ false → cond b (Some y) (find p ys) ≡ Some x → find p ys ≡ Some x
    later true f e = absurd (true≢false f)
    later false f e = e

-- no other count is of the class of one
none_else : (c : Count) (cs : List Count) (d class : Name) → list_any (same_count c) cs ≡ false → is_count d class c ≡ true → list_any (is_count d class) cs ≡ false
none_else c cs d class none is = none_any (is_count d class) cs (λ x i. ⊎_elim
    (λ (t : is_count d class x ≡ true). let p = count_names d class c is in let q = count_names d class x t in
    absurd (true≢false (sym (same_count_of c x (p.0 ∙ sym q.0) (p.1 ∙ sym q.1)) ∙ any_in (same_count c) cs x none i)))
    (λ (f : is_count d class x ≡ false). f)
    (cases_Bool (is_count d class x)))

find_first : {X : Type 0} (p : X → Bool) (x : X) (xs : List X) → p x ≡ true → find p (x ∷ xs) ≡ Some x
find_first p x xs h = rw h refl

find_later : {X : Type 0} (p : X → Bool) (x : X) (xs : List X) → p x ≡ false → find p (x ∷ xs) ≡ find p xs
find_later p x xs h = rw h refl

-- each count is found by its names
found_count : (cs : List Count) (c : Count) → are_apart same_count cs ≡ true → In c cs → find (is_count c.maildrop c.class) cs ≡ Some c
found_count [] c apart i = absurd i
found_count (x ∷ cs) c apart i =
    let p = and_parts (not (list_any (same_count x) cs)) (are_apart same_count cs) apart in
    let none = not_true (list_any (same_count x) cs) p.0 in
    ⊎_elim
    (λ (e : c ≡ x). find_first (is_count c.maildrop c.class) x cs (subst (λ (z : Count). is_count c.maildrop c.class z ≡ true) e (is_its_count c.maildrop c.class c refl refl))
    ∙ ap (λ (z : Count). Some z) (sym e))
    (λ k. find_later (is_count c.maildrop c.class) x cs (other c k (any_in (same_count x) cs c none k) (is_count c.maildrop c.class x) refl) ∙ found_count cs c p.1 k)
    i
  where
    other : (c : Count) → In c cs → same_count x c ≡ false → (b : Bool) → is_count c.maildrop c.class x ≡ b → is_count c.maildrop c.class x ≡ false
    other c k differ false e = e
    other c k differ true e = let q = count_names c.maildrop c.class x e in absurd (true≢false (sym (same_count_of x c q.0 q.1) ∙ differ))

counted_as : (cs : List Count) (c : Count) → are_apart same_count cs ≡ true → In c cs → count_in c.maildrop c.class cs ≡ c.k
counted_as cs c apart i = ap number_in (found_count cs c apart i)

-- ---- the numbers that counts ask for

abbrev asks : Count → List Number
asks c = numbers_to c.maildrop c.class (natural c.k)

abbrev all_asked : List Count → List Number
all_asked cs = flat_map asks cs

asked_in : (cs : List Count) (z : Number) → In z (all_asked cs) → (c : Count) × In c cs × IsNumberOf c.maildrop c.class (natural c.k) z
asked_in [] z i = absurd i
asked_in (c ∷ cs) z i = ⊎_elim
    (λ (k : In z (asks c)). (c, inl refl, numbers_in c.maildrop c.class (natural c.k) z k))
    (λ (k : In z (all_asked cs)). let r = asked_in cs z k in (r.0, inr r.1, r.2))
    (in_either (asks c) (all_asked cs) z i)

in_asked : (cs : List Count) (c : Count) (k : ℕ) → In c cs → 0 < k → k ≤ natural c.k → In {A = Number} (c.maildrop, c.class, k) (all_asked cs)
in_asked [] c k i above within = absurd i
in_asked (x ∷ cs) c k i above within = ⊎_elim
    (λ (e : c ≡ x). in_left (asks x) (all_asked cs) (c.maildrop, c.class, k)
    (subst (λ (y : Count). In {A = Number} (c.maildrop, c.class, k) (asks y)) e (in_numbers c.maildrop c.class (natural c.k) k above within)))
    (λ j. in_right (asks x) (all_asked cs) (c.maildrop, c.class, k) (in_asked cs c k j above within))
    i

length_asks : (c : Count) → length (asks c) ≡ asked c
length_asks c = length-map {B = Number} (λ (k : ℕ). (c.maildrop, c.class, k + 1)) (range_with_len 0 (natural c.k)) ∙ length-range_with_len 0 (natural c.k)

length_asked : (cs : List Count) → length (all_asked cs) ≡ sum_by asked cs
length_asked [] = refl
length_asked (c ∷ cs) = omega (arith, length-append (asks c) (all_asked cs), length_asks c, length_asked cs, sum_by-cons asked c cs)

-- no number is asked for twice

differ_map : {A B : Type 0} (f : A → B) (xs : List A) → ((x y : A) → f x ≡ f y → x ≡ y) → Differ xs → Differ (map f xs)
differ_map f [] one differ = tt
differ_map {A} f (x ∷ xs) one differ =
    (λ i. let r = in_map f xs (f x) i in differ.0 (subst (λ (z : A). In z xs) (sym (one x r.0 r.2)) r.1), differ_map f xs one differ.1)

differ_both : {A : Type 0} (xs ys : List A) → Differ xs → Differ ys → ((z : A) → In z xs → In z ys → ⊥) → Differ (xs ++ ys)
differ_both [] ys p q r = q
differ_both (x ∷ xs) ys p q r =
    (λ i. ⊎_elim (λ k. p.0 k) (λ k. r x (inl refl) k) (in_either xs ys x i), differ_both xs ys p.1 q (λ z i j. r z (inr i) j))

asks_differ : (c : Count) → Differ (asks c)
asks_differ c = differ_map {B = Number} (λ (k : ℕ). (c.maildrop, c.class, k + 1)) (range_with_len 0 (natural c.k))
    (λ x y e. let k : x + 1 ≡ y + 1 = ap (λ (z : Number). z.2) e in omega (arith, k)) (range_differs 0 (natural c.k))

asked_differ : (cs : List Count) → are_apart same_count cs ≡ true → Differ (all_asked cs)
asked_differ [] apart = tt
asked_differ (c ∷ cs) apart =
    let p = and_parts (not (list_any (same_count c) cs)) (are_apart same_count cs) apart in
    differ_both (asks c) (all_asked cs) (asks_differ c) (asked_differ cs p.1) (λ z i j.
    let a = numbers_in c.maildrop c.class (natural c.k) z i in
    let b = asked_in cs z j in
    true≢false (sym (same_count_of c b.0 (sym a.maildrop ∙ b.2.maildrop) (sym a.class_is ∙ b.2.class_is)) ∙ any_in (same_count c) cs b.0 (not_true (list_any (same_count c) cs) p.0) b.1))

-- ---- how many of a class are asked for

-- the number is of the class
abbrev is_of : Name → Name → Number → Bool
is_of d class z = bytes_eq z.0 d && bytes_eq z.1 class

kept_alike : {A B : Type 0} (p : B → Bool) (f : A → B) (b : Bool) (xs : List A) → ((x : A) → p (f x) ≡ b) → length (filter p (map f xs)) ≡ cond b (length xs) 0
kept_alike p f b [] same = none b
  where
    none : (b : Bool) → zero ≡ cond b zero zero
    none true = refl
    none false = refl
kept_alike p f b (x ∷ xs) same = rw (same x) (at b (kept_alike p f b xs same))
  where
    at : (b : Bool) → length (filter p (map f xs)) ≡ cond b (length xs) 0 → length (cond b (f x ∷ filter p (map f xs)) (filter p (map f xs))) ≡ cond b (length (x ∷ xs)) 0
    at true e = ap suc e
    at false e = e

of_class_asked : (d class : Name) (c : Count) → length (filter (is_of d class) (asks c)) ≡ cond (is_count d class c) (natural c.k) 0
of_class_asked d class c =
    kept_alike {B = Number} (is_of d class) (λ (k : ℕ). (c.maildrop, c.class, k + 1)) (is_count d class c) (range_with_len 0 (natural c.k)) (λ x. refl)
    ∙ ap (λ n. cond (is_count d class c) n 0) (length-range_with_len 0 (natural c.k))

of_class_all : (d class : Name) (c : Count) (cs : List Count)
    → length (filter (is_of d class) (all_asked (c ∷ cs))) ≡ cond (is_count d class c) (natural c.k) 0 + length (filter (is_of d class) (all_asked cs))
of_class_all d class c cs =
    ap (λ (l : List Number). length l) (filter-append (is_of d class) (asks c) (all_asked cs))
    ∙ length-append (filter (is_of d class) (asks c)) (filter (is_of d class) (all_asked cs))
    ∙ ap (λ n. n + length (filter (is_of d class) (all_asked cs))) (of_class_asked d class c)

none_asked : (d class : Name) (cs : List Count) → list_any (is_count d class) cs ≡ false → length (filter (is_of d class) (all_asked cs)) ≡ 0
none_asked d class [] none = refl
none_asked d class (c ∷ cs) none =
    let p = or_parts (is_count d class c) (list_any (is_count d class) cs) none in
    let here : cond (is_count d class c) (natural c.k) 0 ≡ 0 = rw p.0 refl in
    omega (arith, of_class_all d class c cs, here, none_asked d class cs p.1)

natural_is : (k : ℤ) → is_within k ≡ true → k ≡ pos (natural k)
natural_is (pos n) h = refl
natural_is (negsuc n) h = absurd (true≢false (sym h))

-- as many as the count says
many_asked : (d class : Name) (cs : List Count) → are_apart same_count cs ≡ true → list_all (λ (c : Count). is_within c.k) cs ≡ true
    → count_in d class cs ≡ pos (length (filter (is_of d class) (all_asked cs)))
many_asked d class [] apart within = refl
many_asked d class (c ∷ cs) apart within =
    let p = and_parts (not (list_any (same_count c) cs)) (are_apart same_count cs) apart in
    let w = and_parts (is_within c.k) (list_all (λ (x : Count). is_within x.k) cs) within in
    ⊎_elim
    (λ (t : is_count d class c ≡ true).
    let none = none_asked d class cs (none_else c cs d class (not_true (list_any (same_count c) cs) p.0) t) in
    let here : cond (is_count d class c) (natural c.k) 0 ≡ natural c.k = rw t refl in
    let many : natural c.k ≡ length (filter (is_of d class) (all_asked (c ∷ cs))) = omega (arith, of_class_all d class c cs, here, none) in
    ap number_in (find_first (is_count d class) c cs t) ∙ natural_is c.k w.0 ∙ ap pos many)
    (λ (f : is_count d class c ≡ false).
    let here : cond (is_count d class c) (natural c.k) 0 ≡ 0 = rw f refl in
    let many : length (filter (is_of d class) (all_asked cs)) ≡ length (filter (is_of d class) (all_asked (c ∷ cs))) = omega (arith, of_class_all d class c cs, here) in
    ap number_in (find_later (is_count d class) c cs f) ∙ many_asked d class cs p.1 w.1 ∙ ap pos many)
    (cases_Bool (is_count d class c))

-- ---- the numbers of receipts

abbrev receipt_number : Receipt → Number
receipt_number r = (r.maildrop, r.class, r.k)

uid_number : (r s : Receipt) → same_uid r s ≡ true → receipt_number r ≡ receipt_number s
uid_number r s h =
    let p = and_parts (bytes_eq r.maildrop s.maildrop && bytes_eq r.class s.class) (r.k == s.k) h in
    let q = and_parts (bytes_eq r.maildrop s.maildrop) (bytes_eq r.class s.class) p.0 in
    number_is (receipt_number r) (receipt_number s) (bytes_are r.maildrop s.maildrop q.0) (bytes_are r.class s.class q.1) (num_same r.k s.k p.1)

uids_apart : (rs : List Receipt) → Differ (map receipt_number rs) → are_distinct same_uid rs ≡ true
uids_apart [] d = refl
uids_apart (r ∷ rs) d =
    both_hold (not (list_any (same_uid r) rs)) (are_distinct same_uid rs)
    (not_false (list_any (same_uid r) rs) (none_any (same_uid r) rs (λ s i. ⊎_elim
    (λ (t : same_uid r s ≡ true). absurd (d.0 (subst (λ (z : Number). In z (map receipt_number rs)) (sym (uid_number r s t)) (map_in receipt_number rs s i))))
    (λ (f : same_uid r s ≡ false). f)
    (cases_Bool (same_uid r s)))))
    (uids_apart rs d.1)

numbers_apart : (rs : List Receipt) → are_distinct same_uid rs ≡ true → Differ (map receipt_number rs)
numbers_apart [] apart = tt
numbers_apart (r ∷ rs) apart =
    let p = and_parts (not (list_any (same_uid r) rs)) (are_distinct same_uid rs) apart in (
      λ i. let s = in_map receipt_number rs (receipt_number r) i in
          true≢false (sym (same_uid_of r s.0 (ap (λ (z : Number). z.0) s.2) (ap (λ (z : Number). z.1) s.2) (ap (λ (z : Number). z.2) s.2))
          ∙ any_in (same_uid r) rs s.0 (not_true (list_any (same_uid r) rs) p.0) s.1),
      numbers_apart rs p.1,
    )

count_numbers : (d class : Name) (rs : List Receipt) → class_count class (receipts_of d rs) ≡ length (filter (is_of d class) (map receipt_number rs))
count_numbers d class rs =
    count_is_length class (receipts_of d rs)
    ∙ ap (λ (l : List Receipt). length l) (filter_twice (λ (r : Receipt). bytes_eq r.maildrop d) (λ (r : Receipt). bytes_eq r.class class) rs)
    ∙ sym (length-map receipt_number (filter (λ (r : Receipt). bytes_eq r.maildrop d && bytes_eq r.class class) rs))
    ∙ ap (λ (l : List Number). length l) (sym (filter-map receipt_number (is_of d class) rs))

differ_permuted : {A : Type 0} (xs ys : List A) → IsPermutation xs ys → Differ xs → Differ ys
differ_permuted {A} xs ys h =
    (along_permutation (λ (xs ys : List A). (Differ xs → Differ ys) × ((z : A) → In z ys → In z xs))
    (λ xs. (λ d. d, λ z i. i))
    (λ x xs ys h. (λ d. (λ i. d.0 (h.1 x i), h.0 d.1), λ z i. ⊎_elim (λ e. inl e) (λ k. inr (h.1 z k)) i))
    (λ x y xs. (λ d. (λ i. ⊎_elim (λ e. d.0 (inl (sym e))) (λ k. d.1.0 k) i, (λ i. d.0 (inr i), d.1.1)), λ z i. ⊎_elim (λ e. inr (inl e)) (λ k. ⊎_elim (λ e. inl e) (λ l. inr (inr l)) k) i))
    (λ xs ys zs h k. (λ d. k.0 (h.0 d), λ z i. h.1 z (k.1 z i)))
    xs ys h).0

-- ---- rows and receipts

abbrev receipt_in : Deposit → Receipt
receipt_in d = record { maildrop = d.maildrop; id = d.id; class = d.class; k = natural d.k; digest = d.digest }

record RowParts (d : Deposit) : Type 0 where
  maildrop : is_name d.maildrop ≡ true
  id : is_deposit_id d.id ≡ true
  class : is_name d.class ≡ true
  above : 0 < natural d.k
  sized : length d.digest ≡ 32

row_parts : (d : Deposit) → is_deposit_row d ≡ true → RowParts d
row_parts d h =
    let p4 = and_parts (is_name d.maildrop && is_deposit_id d.id && is_name d.class && nat_lt 0 (natural d.k)) (length d.digest == 32) h in
    let p3 = and_parts (is_name d.maildrop && is_deposit_id d.id && is_name d.class) (nat_lt 0 (natural d.k)) p4.0 in
    let p2 = and_parts (is_name d.maildrop && is_deposit_id d.id) (is_name d.class) p3.0 in
    let p1 = and_parts (is_name d.maildrop) (is_deposit_id d.id) p2.0 in
    record { maildrop = p1.0; id = p1.1; class = p2.1; above = nat_lt-true 0 (natural d.k) p3.1; sized = num_same (length d.digest) 32 p4.1 }

above_is : (k : ℤ) → 0 < natural k → pos (natural k) ≡ k
above_is (pos n) h = refl
above_is (negsuc n) h = absurd (omega (arith, h))

row_is : (d : Deposit) → is_deposit_row d ≡ true → deposit_row (receipt_in d) ≡ d
row_is d h = ap (λ (k : ℤ). let row : Deposit = record { maildrop = d.maildrop; id = d.id; class = d.class; k = k; digest = d.digest } in row) (above_is d.k (row_parts d h).above)

rows_are : (ds : List Deposit) → list_all is_deposit_row ds ≡ true → ds ≡ map deposit_row (map receipt_in ds)
rows_are [] h = refl
rows_are (d ∷ ds) h = let p = and_parts (is_deposit_row d) (list_all is_deposit_row ds) h in λ i. sym (row_is d p.0) i ∷ rows_are ds p.1 i

is_32 : (n : ℕ) → n ≡ 32 → (n == 32) ≡ true
is_32 n e = subst (λ m. (n == m) ≡ true) e (num_itself n)

sound_from : (rs : List Receipt) (r : Receipt) → Parts rs r → is_sound_receipt (records_with [] rs) r ≡ true
sound_from rs r p =
    let n = class_count r.class (receipts_of r.maildrop rs) in
    let counted = both_hold (nat_lt 0 r.k) (nat_le r.k n) (lt-nat_lt 0 r.k p.above) (le-nat_le r.k n p.within) in
    let a = both_hold (is_name r.maildrop) (is_deposit_id r.id) p.maildrop p.id in
    let b = both_hold (is_name r.maildrop && is_deposit_id r.id) (is_name r.class) a p.class in
    let c = both_hold (is_name r.maildrop && is_deposit_id r.id && is_name r.class) (is_counted rs r) b counted in
    let d = both_hold (is_name r.maildrop && is_deposit_id r.id && is_name r.class && is_counted rs r) (nat_le n most_deposits) c (le-nat_le n most_deposits p.few) in
    both_hold (is_name r.maildrop && is_deposit_id r.id && is_name r.class && is_counted rs r && nat_le n most_deposits) (length r.digest == 32) d (is_32 (length r.digest) p.sized)

-- ---- rows that pass the test are those of deposits

either : (a b : Bool) → (a || b) ≡ true → (a ≡ true) ⊎ (b ≡ true)
either true b h = inl refl
either false b h = inr h

filled_within : (ns : List Number) (c : Count) → is_filled ns c ≡ true → is_within c.k ≡ true
filled_within ns c h = (and_parts (is_within c.k) (natural c.k == 0 || (is_name c.maildrop && is_name c.class && has_all ns c.maildrop c.class (natural c.k))) h).0

filled_has : (ns : List Number) (c : Count) (z : Number) → is_filled ns c ≡ true → IsNumberOf c.maildrop c.class (natural c.k) z → In z ns
filled_has ns c z h is =
    let n = natural c.k in
    let p = and_parts (is_within c.k) (n == 0 || (is_name c.maildrop && is_name c.class && has_all ns c.maildrop c.class n)) h in
    ⊎_elim
    (λ (e : (n == 0) ≡ true). absurd (omega (arith, num_same n 0 e, is.above, is.within)))
    (λ (e : (is_name c.maildrop && is_name c.class && has_all ns c.maildrop c.class n) ≡ true).
    let q = and_parts (is_name c.maildrop && is_name c.class) (has_all ns c.maildrop c.class n) e in
    let here = all_in (has_number ns) (numbers_to c.maildrop c.class n) (c.maildrop, c.class, z.2) q.1 (in_numbers c.maildrop c.class n z.2 is.above is.within) in
    subst (λ (y : Number). In y ns) (number_is (c.maildrop, c.class, z.2) z (sym is.maildrop) (sym is.class_is) refl) (of_has ns (c.maildrop, c.class, z.2) here))
    (either (n == 0) (is_name c.maildrop && is_name c.class && has_all ns c.maildrop c.class n) p.1)

within_most : (k : ℤ) → is_within k ≡ true → natural k ≤ most_deposits
within_most (pos n) h = nat_le-true n most_deposits h
within_most (negsuc n) h = absurd (true≢false (sym h))

-- the numbers are those asked for
record AreAsked (ds : List Deposit) (cs : List Count) : Type 0 where
  rows : list_all is_deposit_row ds ≡ true
  apart : are_apart same_count cs ≡ true
  within : (c : Count) → In c cs → is_within c.k ≡ true
  same : IsPermutation (all_asked cs) (map number_of ds)

are_asked : (ds : List Deposit) (cs : List Count) → are_apart same_count cs ≡ true → are_sound_rows ds cs ≡ true → AreAsked ds cs
are_asked ds cs apart ok =
    let ns = map number_of ds in
    let p = and_parts (list_all is_deposit_row ds) (list_all (is_filled ns) cs && sum_by asked cs == length ds) ok in
    let q = and_parts (list_all (is_filled ns) cs) (sum_by asked cs == length ds) p.1 in
    let few : length ns ≤ length (all_asked cs) = omega (arith, length-map number_of ds, length_asked cs, num_same (sum_by asked cs) (length ds) q.1) in
    record {
      rows = p.0;
      apart = apart;
      within = λ c i. filled_within ns c (all_in (is_filled ns) cs c q.0 i);
      same = as_many (all_asked cs) ns (asked_differ cs apart) (λ z i. let a = asked_in cs z i in filled_has ns a.0 z (all_in (is_filled ns) cs a.0 q.0 a.1) a.2) few;
    }

same_numbers : (ds : List Deposit) → map receipt_number (map receipt_in ds) ≡ map number_of ds
same_numbers ds = map-map receipt_number receipt_in ds

counts_agree : (ds : List Deposit) (cs : List Count) (d class : Name) → AreAsked ds cs → count_in d class cs ≡ pos (class_count class (receipts_of d (map receipt_in ds)))
counts_agree ds cs d class a =
    let ns = map number_of ds in
    let lengths = length_permutation (filter (is_of d class) (all_asked cs)) (filter (is_of d class) ns) (filter_permuted (is_of d class) (all_asked cs) ns a.same) in
    let seen = count_numbers d class (map receipt_in ds) ∙ ap (λ (l : List Number). length (filter (is_of d class) l)) (same_numbers ds) in
    let many : length (filter (is_of d class) (all_asked cs)) ≡ class_count class (receipts_of d (map receipt_in ds)) = omega (arith, lengths, seen) in
    many_asked d class cs a.apart (all_of (λ (c : Count). is_within c.k) cs a.within) ∙ ap pos many

receipt_parts : (ds : List Deposit) (cs : List Count) (d : Deposit) → AreAsked ds cs → In d ds → Parts (map receipt_in ds) (receipt_in d)
receipt_parts ds cs d a i =
    let rs = map receipt_in ds in
    let row = row_parts d (all_in is_deposit_row ds d a.rows i) in
    let z = number_of d in
    let e = asked_in cs z (in_permuted z (map number_of ds) (all_asked cs) (IsPermutation-sym (all_asked cs) (map number_of ds) a.same) (map_in number_of ds d i)) in
    let c = e.0 in
    let total : pos (class_count c.class (receipts_of c.maildrop rs)) ≡ c.k = sym (counts_agree ds cs c.maildrop c.class a) ∙ counted_as cs c a.apart e.1 in
    let counted : class_count c.class (receipts_of c.maildrop rs) ≡ natural c.k = ap natural total in
    let here : class_count d.class (receipts_of d.maildrop rs) ≡ natural c.k = ap (λ n. class_count n (receipts_of d.maildrop rs)) e.2.class_is
    ∙ ap (λ n. class_count c.class (receipts_of n rs)) e.2.maildrop ∙ counted in
    record {
      maildrop = row.maildrop;
      id = row.id;
      class = row.class;
      above = row.above;
      within = subst (λ n. natural d.k ≤ n) (sym here) e.2.within;
      few = subst (λ n. n ≤ most_deposits) (sym here) (within_most c.k (a.within c e.1));
      sized = row.sized;
    }

accepted : (rows : Rows) → AreApart rows → are_sound_rows rows.deposits rows.counts ≡ true → (rs : List Receipt) × DepositsAre rows rs
accepted rows apart ok =
    let ds = rows.deposits in
    let cs = rows.counts in
    let rs = map receipt_in ds in
    let a = are_asked ds cs apart.counts ok in (
      rs,
      record {
        same = rows_are ds a.rows;
        counts = λ d class. counts_agree ds cs d class a;
        sound = all_of (is_sound_receipt (records_with [] rs)) rs (λ r i. let m = in_map receipt_in ds r i in
            subst (λ (x : Receipt). is_sound_receipt (records_with [] rs) x ≡ true) (sym m.2) (sound_from rs (receipt_in m.0) (receipt_parts ds cs m.0 a m.1)));
        ids_apart = distinct-map receipt_in same_id ds ∙ sym (apart_distinct (λ (x y : Deposit). bytes_eq x.maildrop y.maildrop && bytes_eq x.id y.id) ds) ∙ apart.deposits;
        uids_apart = uids_apart rs (subst (λ (l : List Number). Differ l) (sym (same_numbers ds)) (differ_permuted (all_asked cs) (map number_of ds) a.same (asked_differ cs apart.counts)));
      },
    )

-- ---- rows of deposits pass the test

row_passes : (rs : List Receipt) (r : Receipt) → Parts rs r → is_deposit_row (deposit_row r) ≡ true
row_passes rs r p =
    let a = both_hold (is_name r.maildrop) (is_deposit_id r.id) p.maildrop p.id in
    let b = both_hold (is_name r.maildrop && is_deposit_id r.id) (is_name r.class) a p.class in
    let c = both_hold (is_name r.maildrop && is_deposit_id r.id && is_name r.class) (nat_lt 0 r.k) b (lt-nat_lt 0 r.k p.above) in
    both_hold (is_name r.maildrop && is_deposit_id r.id && is_name r.class && nat_lt 0 r.k) (length r.digest == 32) c (is_32 (length r.digest) p.sized)

parts_in : (rows : Rows) (rs : List Receipt) (r : Receipt) → DepositsAre rows rs → In r rs → Parts rs r
parts_in rows rs r h i = parts rs r (all_in (is_sound_receipt (records_with [] rs)) rs r h.sound i)

-- a number of a class is there
there_is : (rows : Rows) (rs : List Receipt) (d class : Name) (k : ℕ) → DepositsAre rows rs → 0 < k → k ≤ class_count class (receipts_of d rs)
    → (r : Receipt) × In r rs × (r.maildrop ≡ d) × (r.class ≡ class) × (k ≡ r.k)
there_is rows rs d class k h above within = number_of_class rs d class k h.sound h.uids_apart above within

none_or_more : (n : ℕ) → (n ≡ 0) ⊎ (1 ≤ n)
none_or_more zero = inl refl
none_or_more (suc n) = inr (omega arith)

first_or : (a b : Bool) → a ≡ true → (a || b) ≡ true
first_or a b e = rw e refl

second_or : (a b : Bool) → b ≡ true → (a || b) ≡ true
second_or true b e = refl
second_or false b e = e

count_fits : (rows : Rows) (rs : List Receipt) (d class : Name) → DepositsAre rows rs → class_count class (receipts_of d rs) ≤ most_deposits
count_fits rows rs d class h =
    let n = class_count class (receipts_of d rs) in
    ⊎_elim
    (λ (e : n ≡ 0). subst (λ m. m ≤ most_deposits) (sym e) (nat_le-true 0 most_deposits refl))
    (λ (l : 1 ≤ n). let r = there_is rows rs d class 1 h (omega arith) l in
    subst (λ m. class_count m (receipts_of d rs) ≤ most_deposits) r.3 (subst (λ m. class_count r.0.class (receipts_of m rs) ≤ most_deposits) r.2 (parts_in rows rs r.0 h r.1).few))
    (none_or_more n)

asked_there : (rows : Rows) (rs : List Receipt) (d class : Name) (z : Number) → DepositsAre rows rs → IsNumberOf d class (class_count class (receipts_of d rs)) z → In z (map receipt_number rs)
asked_there rows rs d class z h is =
    let r = there_is rows rs d class z.2 h is.above is.within in
    subst (λ (y : Number). In y (map receipt_number rs)) (number_is (receipt_number r.0) z (r.2 ∙ sym is.maildrop) (r.3 ∙ sym is.class_is) (sym r.4)) (map_in receipt_number rs r.0 r.1)

all_there : (rows : Rows) (rs : List Receipt) (d class : Name) (n : ℕ) → DepositsAre rows rs → n ≡ class_count class (receipts_of d rs) → has_all (map receipt_number rs) d class n ≡ true
all_there rows rs d class n h e =
    all_of (has_number (map receipt_number rs)) (numbers_to d class n)
    (λ z i. has_of (map receipt_number rs) z (asked_there rows rs d class z h (subst (λ m. IsNumberOf d class m z) e (numbers_in d class n z i))))

count_passes : (rows : Rows) (rs : List Receipt) (c : Count) → AreApart rows → DepositsAre rows rs → In c rows.counts → is_filled (map receipt_number rs) c ≡ true
count_passes rows rs c apart h i =
    let ns = map receipt_number rs in
    let n = class_count c.class (receipts_of c.maildrop rs) in
    let k : c.k ≡ pos n = sym (counted_as rows.counts c apart.counts i) ∙ h.counts c.maildrop c.class in
    let is : natural c.k ≡ n = ap natural k in
    let within : is_within c.k ≡ true = subst (λ m. is_within m ≡ true) (sym k) (le-nat_le n most_deposits (count_fits rows rs c.maildrop c.class h)) in
    both_hold (is_within c.k) (natural c.k == 0 || (is_name c.maildrop && is_name c.class && has_all ns c.maildrop c.class (natural c.k))) within
    (⊎_elim
    (λ (e : n ≡ 0). first_or (natural c.k == 0) (is_name c.maildrop && is_name c.class && has_all ns c.maildrop c.class (natural c.k))
    (subst (λ m. (natural c.k == m) ≡ true) (is ∙ e) (num_itself (natural c.k))))
    (λ (l : 1 ≤ n).
    let r = there_is rows rs c.maildrop c.class 1 h (omega arith) l in
    let p = parts_in rows rs r.0 h r.1 in
    second_or (natural c.k == 0) (is_name c.maildrop && is_name c.class && has_all ns c.maildrop c.class (natural c.k))
    (both_hold (is_name c.maildrop && is_name c.class) (has_all ns c.maildrop c.class (natural c.k))
    (both_hold (is_name c.maildrop) (is_name c.class) (subst (λ m. is_name m ≡ true) r.2 p.maildrop) (subst (λ m. is_name m ≡ true) r.3 p.class))
    (all_there rows rs c.maildrop c.class (natural c.k) h is)))
    (none_or_more n))

-- a count above 0 has its row
count_there : (d class : Name) (cs : List Count) (n : ℕ) → 0 < n → count_in d class cs ≡ pos n → (c : Count) × In c cs × (c.maildrop ≡ d) × (c.class ≡ class) × (c.k ≡ pos n)
count_there d class cs n above e = at (find (is_count d class) cs) refl e
  where
    at : (o : Option Count) → find (is_count d class) cs ≡ o → number_in o ≡ pos n → (c : Count) × In c cs × (c.maildrop ≡ d) × (c.class ≡ class) × (c.k ≡ pos n)
    at None f e = let none : 0 ≡ n = ap natural e in absurd (omega arith)
    at (Some c) f e = let p = found_in (is_count d class) cs c f in let q = count_names d class c p.1 in (c, p.0, q.0, q.1, e)

receipt_asked : (rows : Rows) (rs : List Receipt) (r : Receipt) → DepositsAre rows rs → In r rs → In (receipt_number r) (all_asked rows.counts)
receipt_asked rows rs r h i =
    let p = parts_in rows rs r h i in
    let n = class_count r.class (receipts_of r.maildrop rs) in
    let c = count_there r.maildrop r.class rows.counts n (omega (arith, p.above, p.within)) (h.counts r.maildrop r.class) in
    let is : natural c.0.k ≡ n = ap natural c.4 in
    subst (λ (y : Number). In y (all_asked rows.counts)) (number_is (c.0.maildrop, c.0.class, r.k) (receipt_number r) c.2 c.3 refl)
    (in_asked rows.counts c.0 r.k c.1 p.above (subst (λ m. r.k ≤ m) (sym is) p.within))

as_many_asked : (rows : Rows) (rs : List Receipt) → AreApart rows → DepositsAre rows rs → sum_by asked rows.counts ≡ length rs
as_many_asked rows rs apart h =
    let ns = map receipt_number rs in
    let there = λ (z : Number) (i : In z (all_asked rows.counts)).
    let a = asked_in rows.counts z i in
    let k : natural a.0.k ≡ class_count a.0.class (receipts_of a.0.maildrop rs) = ap natural (sym (counted_as rows.counts a.0 apart.counts a.1) ∙ h.counts a.0.maildrop a.0.class) in
    asked_there rows rs a.0.maildrop a.0.class z h (subst (λ m. IsNumberOf a.0.maildrop a.0.class m z) k a.2) in
    let back = λ (z : Number) (i : In z ns).
    let m = in_map receipt_number rs z i in
    subst (λ (y : Number). In y (all_asked rows.counts)) (sym m.2) (receipt_asked rows rs m.0 h m.1) in
    omega (
      arith,
      no_more (all_asked rows.counts) ns (asked_differ rows.counts apart.counts) there,
      no_more ns (all_asked rows.counts) (numbers_apart rs h.uids_apart) back,
      length_asked rows.counts,
      length-map receipt_number rs,
    )

refused : (rows : Rows) (rs : List Receipt) → AreApart rows → DepositsAre rows rs → are_sound_rows rows.deposits rows.counts ≡ true
refused rows rs apart h =
    let ds = map deposit_row rs in
    let cs = rows.counts in
    let ns : map number_of ds ≡ map receipt_number rs = map-map number_of deposit_row rs in
    let a : list_all is_deposit_row ds ≡ true = all_of is_deposit_row ds (λ d i. let m = in_map deposit_row rs d i in
    subst (λ (x : Deposit). is_deposit_row x ≡ true) (sym m.2) (row_passes rs m.0 (parts_in rows rs m.0 h m.1))) in
    let b : list_all (is_filled (map number_of ds)) cs ≡ true = subst (λ (l : List Number). list_all (is_filled l) cs ≡ true) (sym ns)
    (all_of (is_filled (map receipt_number rs)) cs (λ c i. count_passes rows rs c apart h i)) in
    let many : sum_by asked cs ≡ length ds = as_many_asked rows rs apart h ∙ sym (length-map deposit_row rs) in
    let c : (sum_by asked cs == length ds) ≡ true = subst (λ n. (sum_by asked cs == n) ≡ true) many (num_itself (sum_by asked cs)) in
    subst (λ (l : List Deposit). are_sound_rows l cs ≡ true) (sym h.same)
    (both_hold (list_all is_deposit_row ds) (list_all (is_filled (map number_of ds)) cs && sum_by asked cs == length ds) a
    (both_hold (list_all (is_filled (map number_of ds)) cs) (sum_by asked cs == length ds) b c))

pub judged : (rows : Rows) (b : Bool) → AreApart rows → b ≡ are_sound_rows rows.deposits rows.counts → Finds (DepositsAre rows) b
judged rows true apart e = accepted rows apart (sym e)
judged rows false apart e = λ rs h. true≢false (sym (refused rows rs apart h) ∙ sym e)
