-- Rows with marks against a view and the numbers that are marked.
use Rattle.std.specs.Prelude.{◌≡◌, ℕ, zero, suc, ◌+◌, ◌<◌, ◌≤◌, ◌==◌, ◌-◌, ◌^◌, min, ◌||◌, ◌&&◌, Bool, true, false, not, List, [], ◌∷◌, ◌++◌, length, filter, map, cond, sum_by}
use Rattle.std.specs.Prelude.{count_by, Option, Some, None, Result, Ok, Err, slice_get}
use Rattle.std.proofs.Common.{refl, sym, ap, ◌∙◌, arith, set, get_or, take, drop, zero-add, true≢false}
use Rattle.std.specs.List.{find}
use Rattle.std.specs.Option.{option_map, option_or}
use Rattle.std.proofs.lemmas.Bool.{or_from, ne_eqb, eq-eqb}
use Rattle.std.proofs.lemmas.List.{map-append, append-nil}
use Rattle.std.proofs.lemmas.List.Elements.{filter-append}
use Rattle.std.proofs.lemmas.List.Folds.{find-append}
use Rattle.std.proofs.lemmas.List.Sums.{sum_by-cons}
use Rattle.creds.specs.declared.login_name.LoginName.{LoginName}
use Rattle.policy.specs.Policy.{Policy}
use Rattle.policy.specs.declared.decide.Decision.{Decision}
use Rattle.vault.specs.declared.answer.Head.{Head}
use Rattle.session.specs.declared.row.Row.{Row}
use Rattle.session.specs.Session.{Session, class_of, octets_of, uid_of, key_of, picked, picked_for, read_answer, mark_answer, marking, IsPlan}
use Rattle.session.specs.View.{numbered_from, at_number, is_marked, unmarked, marked, to_remove, removed_by, denying, retrieval, removal, may_remove, total_of, refer, referred}
use Rattle.session.specs.Rows.{heads_of, marked_from, marks_of, session_of, unmarked_from, unmarked_row, octets_unless_marked, row_referred, row_picked, is_removable, is_denied}
use Rattle.session.specs.Rows.{denying_rule, Plans}
use Rattle.session.specs.declared.removals.Removals.{Removals}
use Rattle.session.specs.declared.pick.Pick.{Pick}
use Rattle.session.specs.declared.pick.Pick.TheVariants.{NoSuch, Deleted}
use Rattle.session.specs.declared.pick.Readable.{Readable}
use Rattle.session.specs.declared.quit_plan.QuitPlan.{QuitPlan}
use Rattle.session.specs.declared.removed.RemovedMessage.{RemovedMessage}

-- ---- which numbers are marked

-- the row of a place is there and marked
abbrev flag_at : List Row → ℕ → Bool
flag_at [] i = false
flag_at (row ∷ rows) zero = row.is_marked
flag_at (row ∷ rows) (suc i) = flag_at rows i

-- the numbers of the rows after a first one, by whether that is marked
abbrev first_of : Row → ℕ → List (ℕ × Row) → Bool → List (ℕ × Row)
first_of row n rest b = cond b ((n, row) ∷ rest) rest

abbrev flagged : ℕ → List Row → List (ℕ × Row)
flagged n rows = filter (λ (row : ℕ × Row). row.1.is_marked) (numbered_from n rows)

abbrev number_of : ℕ × Row → ℕ
number_of row = row.0

below_at : (row : Row) (n m : ℕ) (rest : List (ℕ × Row)) → m < n → is_marked (map number_of rest) m ≡ false → (b : Bool) →
    is_marked (map number_of (first_of row n rest b)) m ≡ false
below_at row n m rest lt e true = or_from (n == m) (is_marked (map number_of rest) m) (ne_eqb n m (λ same. omega arith)) e
below_at row n m rest lt e false = e

-- no number below the first is marked
is_marked-below : (rows : List Row) (n m : ℕ) → m < n → is_marked (marked_from n rows) m ≡ false
is_marked-below [] n m lt = refl
is_marked-below (row ∷ rows) n m lt = below_at row n m (flagged (n + 1) rows) lt (is_marked-below rows (n + 1) m (omega arith)) row.is_marked

or_true : (b c : Bool) → b ≡ true → (b || c) ≡ true
or_true true c e = refl
or_true false c e = absurd (true≢false (sym e))

or_false : (b c : Bool) → b ≡ false → (b || c) ≡ c
or_false true c e = absurd (true≢false e)
or_false false c e = refl

first_at : (row : Row) (n m : ℕ) (rest : List (ℕ × Row)) → m ≡ n → is_marked (map number_of rest) m ≡ false → (b : Bool) →
    is_marked (map number_of (first_of row n rest b)) m ≡ b
first_at row n m rest e below true = or_true (n == m) (is_marked (map number_of rest) m) (eq-eqb n m (sym e))
first_at row n m rest e below false = below

behind_at : (row : Row) (n m : ℕ) (rest : List (ℕ × Row)) → n < m → (b : Bool) →
    is_marked (map number_of (first_of row n rest b)) m ≡ is_marked (map number_of rest) m
behind_at row n m rest lt true = or_false (n == m) (is_marked (map number_of rest) m) (ne_eqb n m (λ same. omega arith))
behind_at row n m rest lt false = refl

-- a number is marked if its row is
is_marked-marked_from : (rows : List Row) (n i m : ℕ) → m ≡ n + i → is_marked (marked_from n rows) m ≡ flag_at rows i
is_marked-marked_from [] n i m e = refl
is_marked-marked_from (row ∷ rows) n zero m e =
    first_at row n m (flagged (n + 1) rows) (omega arith) (is_marked-below rows (n + 1) m (omega arith)) row.is_marked
is_marked-marked_from (row ∷ rows) n (suc i) m e =
    behind_at row n m (flagged (n + 1) rows) (omega arith) row.is_marked ∙ is_marked-marked_from rows (n + 1) i m (omega arith)

-- ---- rows that are marked and rows that aren't

abbrev head_with : ℕ × Row → ℕ × Head
head_with row = (row.0, row.1.head)

map_cond : {A B : Type 0} (f : A → B) (x : A) (xs : List A) (b : Bool) → cond b (f x ∷ map f xs) (map f xs) ≡ map f (cond b (x ∷ xs) xs)
map_cond f x xs true = refl
map_cond f x xs false = refl

-- a test of a number's mark filters the heads as the test of the row's mark filters the rows
filter-marked : (g : Bool → Bool) (marks : List ℕ) (rows : List Row) (n : ℕ) → ((i m : ℕ) → m ≡ n + i → is_marked marks m ≡ flag_at rows i) →
    filter (λ (row : ℕ × Head). g (is_marked marks row.0)) (numbered_from n (heads_of rows)) ≡ map head_with (filter (λ (row : ℕ × Row). g row.1.is_marked) (numbered_from n rows))
filter-marked g marks [] n h = refl
filter-marked g marks (row ∷ rows) n h =
    let before : List (ℕ × Head) = filter (λ (r : ℕ × Head). g (is_marked marks r.0)) (numbered_from (n + 1) (heads_of rows)) in
    let after : List (ℕ × Row) = filter (λ (r : ℕ × Row). g r.1.is_marked) (numbered_from (n + 1) rows) in
    let rest : before ≡ map head_with after = filter-marked g marks rows (n + 1) (λ i m e. h (suc i) m (omega arith)) in
    ap (λ (b : Bool). cond (g b) ((n, row.head) ∷ before) before) (h 0 n (omega arith))
    ∙ ap (λ (fs : List (ℕ × Head)). cond (g row.is_marked) ((n, row.head) ∷ fs) fs) rest
    ∙ map_cond head_with (n, row) after (g row.is_marked)

pub unmarked-rows : (rows : List Row) → unmarked (marks_of rows) (heads_of rows) ≡ unmarked_from 1 rows
unmarked-rows rows = filter-marked not (marks_of rows) rows 1 (λ i m e. is_marked-marked_from rows 1 i m e)

marked-rows : (rows : List Row) → marked (marks_of rows) (heads_of rows) ≡ map head_with (flagged 1 rows)
marked-rows rows = filter-marked (λ b. b) (marks_of rows) rows 1 (λ i m e. is_marked-marked_from rows 1 i m e)

-- ---- what is removed

module _ (policy : Policy) (name : LoginName) where
  abbrev allowed : Head → Bool
  allowed head = may_remove policy name (class_of head)

  abbrev heads_in : List (ℕ × Row) → List Head
  heads_in rows = map (λ (row : ℕ × Head). row.1) (map head_with rows)

  -- what is asked of the heads that are removed is asked of their rows
  module _ {B : Type 0} (f : Head → B) where
    abbrev of_row : Row → B
    of_row row = f row.head

    allowed_at : (row : Row) (heads : List Head) (rows : List Row) → map f heads ≡ map of_row rows → (c : Bool) →
        map f (cond c (row.head ∷ heads) heads) ≡ map of_row (cond c (row ∷ rows) rows)
    allowed_at row heads rows e true = ap (λ (bs : List B). f row.head ∷ bs) e
    allowed_at row heads rows e false = e

    removed_at : (row : Row) (n : ℕ) (rest : List (ℕ × Row)) (rows : List Row) → map f (filter allowed (heads_in rest)) ≡ map of_row rows → (b : Bool) →
        map f (filter allowed (heads_in (cond b ((n, row) ∷ rest) rest))) ≡ map of_row (cond (b && allowed row.head) (row ∷ rows) rows)
    removed_at row n rest rows e true = allowed_at row (filter allowed (heads_in rest)) rows e (allowed row.head)
    removed_at row n rest rows e false = e

    removed_from : (rows : List Row) (n : ℕ) → map f (filter allowed (heads_in (flagged n rows))) ≡ map of_row (filter (is_removable policy name) rows)
    removed_from [] n = refl
    removed_from (row ∷ rows) n = removed_at row n (flagged (n + 1) rows) (filter (is_removable policy name) rows) (removed_from rows (n + 1)) row.is_marked

    removed-rows : (rows : List Row) → map f (to_remove class_of policy name (marks_of rows) (heads_of rows)) ≡ map of_row (filter (is_removable policy name) rows)
    removed-rows rows =
        ap (λ (ms : List (ℕ × Head)). map f (filter allowed (map (λ (row : ℕ × Head). row.1) ms))) (marked-rows rows) ∙ removed_from rows 1

  -- ---- what is denied

  abbrev denied_head : ℕ × Head → Bool
  denied_head row = not (may_remove policy name (class_of row.1))

  abbrev rule_for : ℕ × Head → List ℕ
  rule_for row = (removal policy name (class_of row.1)).rule

  abbrev rule_of_row : Row → List ℕ
  rule_of_row row = (removal policy name row.head.class).rule

  first_denied : (row : Row) (n : ℕ) (heads : Option (ℕ × Head)) (rows : Option Row) → option_map rule_for heads ≡ option_map rule_of_row rows → (c : Bool) →
      option_map rule_for (cond c (Some (n, row.head)) heads) ≡ option_map rule_of_row (cond c (Some row) rows)
  first_denied row n heads rows e true = refl
  first_denied row n heads rows e false = e

  denied_at : (row : Row) (n : ℕ) (rest : List (ℕ × Row)) (rows : Option Row) → option_map rule_for (find denied_head (map head_with rest)) ≡ option_map rule_of_row rows → (b : Bool) →
      option_map rule_for (find denied_head (map head_with (cond b ((n, row) ∷ rest) rest))) ≡ option_map rule_of_row (cond (b && not (allowed row.head)) (Some row) rows)
  denied_at row n rest rows e true = first_denied row n (find denied_head (map head_with rest)) rows e (not (allowed row.head))
  denied_at row n rest rows e false = e

  denied_from : (rows : List Row) (n : ℕ) → option_map rule_for (find denied_head (map head_with (flagged n rows))) ≡ denying_rule policy name rows
  denied_from [] n = refl
  denied_from (row ∷ rows) n = denied_at row n (flagged (n + 1) rows) (find (is_denied policy name) rows) (denied_from rows (n + 1)) row.is_marked

  denying-rows : (rows : List Row) → denying class_of policy name (marks_of rows) (heads_of rows) ≡ denying_rule policy name rows
  denying-rows rows = ap (λ (ms : List (ℕ × Head)). option_map rule_for (find denied_head ms)) (marked-rows rows) ∙ denied_from rows 1

-- ---- references

referred_at : {B : Type 0} (rows : List Row) (i : ℕ) (a b : B) (f : Head → B) →
    referred (slice_get (heads_of rows) i) (flag_at rows i) a b f ≡ row_referred (slice_get rows i) a b f
referred_at [] i a b f = refl
referred_at (row ∷ rows) zero a b f = refl
referred_at (row ∷ rows) (suc i) a b f = referred_at rows i a b f

pub refer-rows : {B : Type 0} (rows : List Row) (n : ℕ) (a b : B) (f : Head → B) →
    refer (marks_of rows) (heads_of rows) n a b f ≡ row_referred (at_number rows n) a b f
refer-rows rows zero a b f = refl
refer-rows rows (suc i) a b f =
    ap (λ (marked : Bool). referred (slice_get (heads_of rows) i) marked a b f) (is_marked-marked_from rows 1 i (suc i) (omega arith)) ∙ referred_at rows i a b f

pub picked-rows : (name : LoginName) (removals : Removals) (rows : List Row) (n : ℕ) → picked (session_of name removals rows) n ≡ row_picked rows n
picked-rows name removals rows n = refer-rows rows n (Err NoSuch) (Err Deleted) (λ (head : Head). Ok head)

-- a head that is found goes on, and a refusal is the same whatever is asked for
found_at : {C : Type 0} (row : Row) (g : Head → Result C Pick) (head : Head) (b : Bool) →
    ◌≡◌ {A = Result Head Pick} (referred (Some row.head) b (Err NoSuch) (Err Deleted) (λ h. Ok h)) (Ok head) → referred (Some row.head) b (Err NoSuch) (Err Deleted) g ≡ g head
found_at row g head true e = cc
found_at row g head false e = let same : row.head ≡ head = cc in ap g same

row_referred-found : {C : Type 0} (o : Option Row) (g : Head → Result C Pick) (head : Head) →
    ◌≡◌ {A = Result Head Pick} (row_referred o (Err NoSuch) (Err Deleted) (λ h. Ok h)) (Ok head) → row_referred o (Err NoSuch) (Err Deleted) g ≡ g head
row_referred-found None g head e = cc
row_referred-found (Some row) g head e = found_at row g head row.is_marked e

refused_at : {C : Type 0} (row : Row) (g : Head → Result C Pick) (why : Pick) (b : Bool) →
    ◌≡◌ {A = Result Head Pick} (referred (Some row.head) b (Err NoSuch) (Err Deleted) (λ h. Ok h)) (Err why) → referred (Some row.head) b (Err NoSuch) (Err Deleted) g ≡ Err why
refused_at row g why true e = cc
refused_at row g why false e = cc

row_referred-refused : {C : Type 0} (o : Option Row) (g : Head → Result C Pick) (why : Pick) →
    ◌≡◌ {A = Result Head Pick} (row_referred o (Err NoSuch) (Err Deleted) (λ h. Ok h)) (Err why) → row_referred o (Err NoSuch) (Err Deleted) g ≡ Err why
row_referred-refused None g why e = cc
row_referred-refused (Some row) g why e = refused_at row g why row.is_marked e

module _ (policy : Policy) (name : LoginName) (removals : Removals) (rows : List Row) (n : ℕ) where
  abbrev answer_for : Head → Result (Unit {0}) Pick
  answer_for head = mark_answer removals (removal policy name head.class)

  pub marking-found : (head : Head) → row_picked rows n ≡ Ok head → marking policy (session_of name removals rows) n ≡ answer_for head
  marking-found head e = refer-rows rows n (Err NoSuch) (Err Deleted) answer_for ∙ row_referred-found (at_number rows n) answer_for head e

  pub marking-refused : (why : Pick) → row_picked rows n ≡ Err why → marking policy (session_of name removals rows) n ≡ Err why
  marking-refused why e = refer-rows rows n (Err NoSuch) (Err Deleted) answer_for ∙ row_referred-refused (at_number rows n) answer_for why e

  abbrev reading_for : Head → Result Readable Pick
  reading_for head = read_answer (retrieval policy name head.class) head

  pub reading-found : (head : Head) → row_picked rows n ≡ Ok head → picked_for policy (session_of name removals rows) n ≡ reading_for head
  reading-found head e = refer-rows rows n (Err NoSuch) (Err Deleted) reading_for ∙ row_referred-found (at_number rows n) reading_for head e

  pub reading-refused : (why : Pick) → row_picked rows n ≡ Err why → picked_for policy (session_of name removals rows) n ≡ Err why
  reading-refused why e = refer-rows rows n (Err NoSuch) (Err Deleted) reading_for ∙ row_referred-refused (at_number rows n) reading_for why e

-- ---- one more mark

or_true_right : (b c : Bool) → c ≡ true → (b || c) ≡ true
or_true_right true c e = refl
or_true_right false c e = e

or_false_right : (b c : Bool) → c ≡ false → (b || c) ≡ b
or_false_right true c e = refl
or_false_right false c e = e

flag_at-set : (rows : List Row) (i j k m n : ℕ) (x : Row) → x.is_marked ≡ true → i < length rows → m ≡ k + j → n ≡ k + i →
    flag_at (set rows i x) j ≡ (flag_at rows j || m == n)
flag_at-set [] i j k m n x t lt e f = absurd (omega arith)
flag_at-set (row ∷ rows) zero zero k m n x t lt e f = t ∙ sym (or_true_right row.is_marked (m == n) (eq-eqb m n (omega arith)))
flag_at-set (row ∷ rows) zero (suc j) k m n x t lt e f = sym (or_false_right (flag_at rows j) (m == n) (ne_eqb m n (λ same. omega arith)))
flag_at-set (row ∷ rows) (suc i) zero k m n x t lt e f = sym (or_false_right row.is_marked (m == n) (ne_eqb m n (λ same. omega arith)))
flag_at-set (row ∷ rows) (suc i) (suc j) k m n x t lt e f = flag_at-set rows i j (k + 1) m n x t (omega arith) (omega arith) (omega arith)

pub is_marked-set : (rows : List Row) (i m n : ℕ) (x : Row) → x.is_marked ≡ true → i < length rows → n ≡ i + 1 →
    is_marked (marks_of (set rows i x)) m ≡ (is_marked (marks_of rows) m || m == n)
is_marked-set rows i zero n x t lt e =
    is_marked-below (set rows i x) 1 0 (omega arith)
    ∙ sym (or_from (is_marked (marks_of rows) 0) (0 == n) (is_marked-below rows 1 0 (omega arith)) (ne_eqb 0 n (λ same. omega arith)))
is_marked-set rows i (suc j) n x t lt e =
    is_marked-marked_from (set rows i x) 1 j (suc j) (omega arith)
    ∙ flag_at-set rows i j 1 (suc j) n x t lt (omega arith) (omega arith)
    ∙ ap (λ (b : Bool). b || suc j == n) (sym (is_marked-marked_from rows 1 j (suc j) (omega arith)))

pub heads_of-set : (rows : List Row) (i : ℕ) (x d : Row) → x.head ≡ (get_or rows i d).head → heads_of (set rows i x) ≡ heads_of rows
heads_of-set [] i x d e = refl
heads_of-set (row ∷ rows) zero x d e = ap (λ (head : Head). head ∷ heads_of rows) e
heads_of-set (row ∷ rows) (suc i) x d e = ap (λ (heads : List Head). row.head ∷ heads) (heads_of-set rows i x d e)

-- ---- no mark

pub heads_of-unmarked : (heads : List Head) → heads_of (map unmarked_row heads) ≡ heads
heads_of-unmarked [] = refl
heads_of-unmarked (head ∷ heads) = ap (λ (hs : List Head). head ∷ hs) (heads_of-unmarked heads)

unmarked_none : (heads : List Head) (n : ℕ) → marked_from n (map unmarked_row heads) ≡ []
unmarked_none [] n = refl
unmarked_none (head ∷ heads) n = unmarked_none heads (n + 1)

pub marks_of-unmarked : (heads : List Head) → marks_of (map unmarked_row heads) ≡ []
marks_of-unmarked heads = unmarked_none heads 1

abbrev pub session_with : LoginName → Removals → List Head → List ℕ → Session
session_with name removals view marks = record { name = name; removals = removals; view = view; marks = marks }

pub session_of-unmarked : (name : LoginName) (removals : Removals) (heads : List Head) → session_of name removals (map unmarked_row heads) ≡ session_with name removals heads []
session_of-unmarked name removals heads =
    ap (λ (view : List Head). session_with name removals view (marks_of (map unmarked_row heads))) (heads_of-unmarked heads) ∙ ap (session_with name removals heads) (marks_of-unmarked heads)

-- the first i rows without their marks, and the others as they were
abbrev pub first_unmarked : List Row → ℕ → List Row
first_unmarked rows i = map unmarked_row (heads_of (take i rows)) ++ drop i rows

set-first_unmarked : (rows : List Row) (i : ℕ) (d : Row) → i < length rows →
    set (first_unmarked rows i) i (unmarked_row (get_or (first_unmarked rows i) i d).head) ≡ first_unmarked rows (suc i)
set-first_unmarked [] i d lt = absurd (omega arith)
set-first_unmarked (row ∷ rows) zero d lt = refl
set-first_unmarked (row ∷ rows) (suc i) d lt = ap (λ (rest : List Row). unmarked_row row.head ∷ rest) (set-first_unmarked rows i d (omega arith))

pub unmarks_more : (rows now : List Row) (i : ℕ) (d : Row) → i < length rows → now ≡ first_unmarked rows i →
    set now i (unmarked_row (get_or now i d).head) ≡ first_unmarked rows (i + 1)
unmarks_more rows now i d lt e =
    let next : suc i ≡ i + 1 = omega arith in
    ap (λ (xs : List Row). set xs i (unmarked_row (get_or xs i d).head)) e ∙ set-first_unmarked rows i d lt ∙ ap (first_unmarked rows) next

-- ---- what is left of the unmarked rows

abbrev pub left_from : List Row → ℕ → List (ℕ × Head)
left_from rows i = unmarked_from (i + 1) (drop i rows)

-- ---- counts

count_at : (row : Row) (n : ℕ) (rest : List (ℕ × Row)) (k : ℕ) → length (map head_with rest) ≡ k → (b : Bool) →
    length (map head_with (cond (not b) ((n, row) ∷ rest) rest)) ≡ cond (not b) 1 0 + k
count_at row n rest k e true = omega arith
count_at row n rest k e false = omega arith

pub length-unmarked_from : (rows : List Row) (n : ℕ) → length (unmarked_from n rows) ≡ count_by (λ (row : Row). not row.is_marked) rows
length-unmarked_from [] n = refl
length-unmarked_from (row ∷ rows) n =
    count_at row n (filter (λ (r : ℕ × Row). not r.1.is_marked) (numbered_from (n + 1) rows)) (count_by (λ (r : Row). not r.is_marked) rows) (length-unmarked_from rows (n + 1)) row.is_marked
    ∙ sym (sum_by-cons (λ (r : Row). cond (not r.is_marked) 1 0) row rows)

marked_at : (row : Row) (n : ℕ) (rest : List (ℕ × Row)) (k : ℕ) → length (map head_with rest) ≡ k → (b : Bool) →
    length (map head_with (cond b ((n, row) ∷ rest) rest)) ≡ cond b 1 0 + k
marked_at row n rest k e true = omega arith
marked_at row n rest k e false = omega arith

length-flagged : (rows : List Row) (n : ℕ) → length (map head_with (flagged n rows)) ≡ count_by (λ (row : Row). row.is_marked) rows
length-flagged [] n = refl
length-flagged (row ∷ rows) n =
    marked_at row n (flagged (n + 1) rows) (count_by (λ (r : Row). r.is_marked) rows) (length-flagged rows (n + 1)) row.is_marked
    ∙ sym (sum_by-cons (λ (r : Row). cond r.is_marked 1 0) row rows)

pub length-marked : (rows : List Row) → length (marked (marks_of rows) (heads_of rows)) ≡ count_by (λ (row : Row). row.is_marked) rows
length-marked rows = ap length (marked-rows rows) ∙ length-flagged rows 1

total_at : (row : Row) (n : ℕ) (rest : List (ℕ × Row)) (k : ℕ) → total_of octets_of (map head_with rest) ≡ k → (b : Bool) →
    total_of octets_of (map head_with (cond (not b) ((n, row) ∷ rest) rest)) ≡ cond b 0 row.head.octets + k
total_at row n rest k e true = e ∙ sym (zero-add k)
total_at row n rest k e false =
    sum_by-cons (λ (r : ℕ × Head). octets_of r.1) (n, row.head) (map head_with rest) ∙ ap (λ (sum : ℕ). row.head.octets + sum) e

pub total_of-unmarked_from : (rows : List Row) (n : ℕ) → total_of octets_of (unmarked_from n rows) ≡ sum_by octets_unless_marked rows
total_of-unmarked_from [] n = refl
total_of-unmarked_from (row ∷ rows) n =
    total_at row n (filter (λ (r : ℕ × Row). not r.1.is_marked) (numbered_from (n + 1) rows)) (sum_by octets_unless_marked rows) (total_of-unmarked_from rows (n + 1)) row.is_marked
    ∙ sym (sum_by-cons octets_unless_marked row rows)

-- the unmarked rows have no more octets than the view
octets_at : (row : Row) (all some : ℕ) → some ≤ all → (b : Bool) → cond b 0 row.head.octets + some ≤ row.head.octets + all
octets_at row all some le true = omega arith
octets_at row all some le false = omega arith

octets-le : (rows : List Row) → sum_by octets_unless_marked rows ≤ sum_by octets_of (heads_of rows)
octets-le [] = omega arith
octets-le (row ∷ rows) =
    rw (sum_by-cons octets_unless_marked row rows, sum_by-cons octets_of row.head (heads_of rows))
    (octets_at row (sum_by octets_of (heads_of rows)) (sum_by octets_unless_marked rows) (octets-le rows) row.is_marked)

-- a total that is capped is exact if the view's octets fit
pub exact_total : (rows : List Row) (octets : ℕ) → octets ≡ min (sum_by octets_unless_marked rows) (2 ^ 64 - 1) → sum_by octets_of (heads_of rows) < 2 ^ 64 →
    octets ≡ total_of octets_of (unmarked (marks_of rows) (heads_of rows))
exact_total rows octets capped fits =
    let le = octets-le rows in
    let exact : octets ≡ sum_by octets_unless_marked rows = omega arith in
    exact ∙ sym (ap (total_of octets_of) (unmarked-rows rows) ∙ total_of-unmarked_from rows 1)

-- ---- a plan

module _ (policy : Policy) (name : LoginName) where
  -- a plan of the rows is the session's
  pub plan-rows : (removals : Removals) (rows : List Row) (plan : QuitPlan) → plan.marked ≡ count_by (λ (row : Row). row.is_marked) rows → Plans policy name rows plan
      → IsPlan policy (session_of name removals rows) plan
  plan-rows removals rows plan marked plans = record {
    marked = marked ∙ sym (length-marked rows);
    keys = plans.keys ∙ sym (removed-rows policy name key_of rows);
    removed = plans.removed ∙ sym (removed-rows policy name (removed_by class_of uid_of policy name) rows);
    denied = plans.denied ∙ sym (denying-rows policy name rows);
  }

  module _ (rows : List Row) (row : Row) where
    -- of one more row the plan has what the row asks for
    removable_more : filter (is_removable policy name) (rows ++ row ∷ []) ≡ filter (is_removable policy name) rows ++ cond (is_removable policy name row) (row ∷ []) []
    removable_more = filter-append (is_removable policy name) rows (row ∷ [])

    mapped_more : {B : Type 0} (f : Row → B) → map f (filter (is_removable policy name) (rows ++ row ∷ []))
        ≡ map f (filter (is_removable policy name) rows) ++ map f (cond (is_removable policy name row) (row ∷ []) [])
    mapped_more f = ap (map f) removable_more ∙ map-append f (filter (is_removable policy name) rows) (cond (is_removable policy name row) (row ∷ []) [])

    abbrev rule_of : Row → List ℕ
    rule_of r = (removal policy name r.head.class).rule

    map_or : (a b : Option Row) → option_map rule_of (option_or a b) ≡ option_or (option_map rule_of a) (option_map rule_of b)
    map_or None b = refl
    map_or (Some x) b = refl

    denied_more : denying_rule policy name (rows ++ row ∷ []) ≡ option_or (denying_rule policy name rows) (option_map rule_of (cond (is_denied policy name row) (Some row) None))
    denied_more = ap (option_map rule_of) (find-append (is_denied policy name) rows (row ∷ [])) ∙ map_or (find (is_denied policy name) rows) (find (is_denied policy name) (row ∷ []))

    -- the plan of one more row, by what is added for it
    plans_more : (old new : QuitPlan) → Plans policy name rows old
        → new.keys.items ≡ old.keys.items ++ map (λ (r : Row). r.head.key) (cond (is_removable policy name row) (row ∷ []) [])
        → new.removed ≡ old.removed ++ map (λ (r : Row). removed_by class_of uid_of policy name r.head) (cond (is_removable policy name row) (row ∷ []) [])
        → new.denied ≡ option_or old.denied (option_map rule_of (cond (is_denied policy name row) (Some row) None))
        → Plans policy name (rows ++ row ∷ []) new
    plans_more old new so keys removed denied =
        let added = cond (is_removable policy name row) (row ∷ []) [] in
        record {
          keys = keys ∙ ap (λ (ks : List ℕ). ks ++ map (λ (r : Row). r.head.key) added) so.keys ∙ sym (mapped_more (λ (r : Row). r.head.key));
          removed = removed ∙ ap (λ (ms : List RemovedMessage). ms ++ map (λ (r : Row). removed_by class_of uid_of policy name r.head) added) so.removed
              ∙ sym (mapped_more (λ (r : Row). removed_by class_of uid_of policy name r.head));
          denied = denied ∙ ap (λ (o : Option (List ℕ)). option_or o (option_map rule_of (cond (is_denied policy name row) (Some row) None))) so.denied ∙ sym denied_more;
        }

    or_none : (o : Option (List ℕ)) → o ≡ option_or o None
    or_none None = refl
    or_none (Some rule) = refl

    pub plans_unmarked : (plan : QuitPlan) → row.is_marked ≡ false → Plans policy name rows plan → Plans policy name (rows ++ row ∷ []) plan
    plans_unmarked plan off so = plans_more plan plan so (rw off (sym (append-nil plan.keys.items))) (rw off (sym (append-nil plan.removed))) (rw off (or_none plan.denied))

    pub plans_denied : (old new : QuitPlan) (decision : Decision) → decision ≡ removal policy name row.head.class → row.is_marked ≡ true → decision.allowed ≡ false
        → new.keys.items ≡ old.keys.items → new.removed ≡ old.removed → new.denied ≡ option_or old.denied (Some decision.rule)
        → Plans policy name rows old → Plans policy name (rows ++ row ∷ []) new
    plans_denied old new decision is on off keys removed denied so =
        let no : may_remove policy name row.head.class ≡ false = sym (ap (λ (d : Decision). d.allowed) is) ∙ off in
        let by : new.denied ≡ option_or old.denied (Some (rule_of row)) = denied ∙ ap (λ (d : Decision). option_or old.denied (Some d.rule)) is in
        plans_more old new so (rw (on, no) (keys ∙ sym (append-nil old.keys.items))) (rw (on, no) (removed ∙ sym (append-nil old.removed))) (rw (on, no) by)

    pub plans_allowed : (old new : QuitPlan) (decision : Decision) → decision ≡ removal policy name row.head.class → row.is_marked ≡ true → decision.allowed ≡ true
        → new.keys.items ≡ old.keys.items ++ row.head.key ∷ [] → new.removed ≡ old.removed ++ record { uid = uid_of row.head; rule = decision.rule } ∷ [] → new.denied ≡ old.denied
        → Plans policy name rows old → Plans policy name (rows ++ row ∷ []) new
    plans_allowed old new decision is on allows keys removed denied so =
        let may : may_remove policy name row.head.class ≡ true = sym (ap (λ (d : Decision). d.allowed) is) ∙ allows in
        let by : new.removed ≡ old.removed ++ removed_by class_of uid_of policy name row.head ∷ [] =
        removed ∙ ap (λ (d : Decision). old.removed ++ record { uid = uid_of row.head; rule = d.rule } ∷ []) is in
        plans_more old new so (rw (on, may) keys) (rw (on, may) by) (rw (on, may) (denied ∙ or_none old.denied))
