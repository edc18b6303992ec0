-- A view's words over rows that a function makes: what is listed, found, removed and denied of them is what is so of the rows beneath.
use Rattle.std.proofs.Common.{◌≡◌, ℕ, zero, suc, ◌+◌, Bool, true, false, not, cond, List, [], ◌∷◌, length, Option, Some, None, slice_get, refl, sym, ◌∙◌, ap}
use Rattle.std.specs.Prelude.{filter, map, sum_by}
use Rattle.std.specs.List.{find}
use Rattle.std.specs.Option.{option_map}
use Rattle.std.proofs.lemmas.List.Sums.{sum_by-cons}
use Rattle.creds.specs.declared.uid.Uid.{Uid}
use Rattle.creds.specs.declared.login_name.LoginName.{LoginName}
use Rattle.policy.specs.Policy.{Policy}
use Rattle.session.specs.View.{numbered_from, numbered, at_number, is_marked, unmarked, marked, refer, referred, to_remove, denying, may_remove, removal, sizes_of, uids_of, total_of}

module _ {A B : Type 0} (f : A → B) where
  -- a numbered row made of a numbered row
  abbrev pub with_number : ℕ × A → ℕ × B
  with_number row = (row.0, f row.1)

  map_cond : {C D : Type 0} (g : C → D) (x : C) (xs : List C) (b : Bool) → cond b (g x ∷ map g xs) (map g xs) ≡ map g (cond b (x ∷ xs) xs)
  map_cond g x xs true = refl
  map_cond g x xs false = refl

  pub numbered_from-map : (n : ℕ) (xs : List A) → numbered_from n (map f xs) ≡ map with_number (numbered_from n xs)
  numbered_from-map n [] = refl
  numbered_from-map n (x ∷ xs) = ap (λ (rows : List (ℕ × B)). (n, f x) ∷ rows) (numbered_from-map (n + 1) xs)

  -- a test of the number alone
  filter_numbers : (p : ℕ → Bool) (rows : List (ℕ × A)) →
      filter (λ (row : ℕ × B). p row.0) (map with_number rows) ≡ map with_number (filter (λ (row : ℕ × A). p row.0) rows)
  filter_numbers p [] = refl
  filter_numbers p (row ∷ rows) =
      ap (λ (fs : List (ℕ × B)). cond (p row.0) (with_number row ∷ fs) fs) (filter_numbers p rows)
      ∙ map_cond with_number row (filter (λ (r : ℕ × A). p r.0) rows) (p row.0)

  pub unmarked-map : (marks : List ℕ) (xs : List A) → unmarked marks (map f xs) ≡ map with_number (unmarked marks xs)
  unmarked-map marks xs = ap (filter (λ (row : ℕ × B). not (is_marked marks row.0))) (numbered_from-map 1 xs) ∙ filter_numbers (λ n. not (is_marked marks n)) (numbered xs)

  pub marked-map : (marks : List ℕ) (xs : List A) → marked marks (map f xs) ≡ map with_number (marked marks xs)
  marked-map marks xs = ap (filter (λ (row : ℕ × B). is_marked marks row.0)) (numbered_from-map 1 xs) ∙ filter_numbers (λ n. is_marked marks n) (numbered xs)

  -- ---- what is found under a number

  slice_get-map : (xs : List A) (n : ℕ) → slice_get (map f xs) n ≡ option_map f (slice_get xs n)
  slice_get-map [] n = refl
  slice_get-map (x ∷ xs) zero = refl
  slice_get-map (x ∷ xs) (suc n) = slice_get-map xs n

  pub at_number-map : (xs : List A) (n : ℕ) → at_number (map f xs) n ≡ option_map f (at_number xs n)
  at_number-map xs zero = refl
  at_number-map xs (suc n) = slice_get-map xs n

  referred-map : {C : Type 0} (o : Option A) (b : Bool) (no_such deleted : C) (found : B → C) →
      referred (option_map f o) b no_such deleted found ≡ referred o b no_such deleted (λ x. found (f x))
  referred-map None b no_such deleted found = refl
  referred-map (Some x) true no_such deleted found = refl
  referred-map (Some x) false no_such deleted found = refl

  pub refer-map : {C : Type 0} (marks : List ℕ) (xs : List A) (n : ℕ) (no_such deleted : C) (found : B → C) →
      refer marks (map f xs) n no_such deleted found ≡ refer marks xs n no_such deleted (λ x. found (f x))
  refer-map {C} marks xs n no_such deleted found =
      ap (λ (o : Option B). referred o (is_marked marks n) no_such deleted found) (at_number-map xs n)
      ∙ referred-map (at_number xs n) (is_marked marks n) no_such deleted found

  -- ---- what is listed

  map_numbered : {C : Type 0} (g : ℕ → B → C) (rows : List (ℕ × A)) →
      map (λ (row : ℕ × B). g row.0 row.1) (map with_number rows) ≡ map (λ (row : ℕ × A). g row.0 (f row.1)) rows
  map_numbered g [] = refl
  map_numbered {C} g (row ∷ rows) = ap (λ (cs : List C). g row.0 (f row.1) ∷ cs) (map_numbered g rows)

  pub sizes_of-map : (octets_of : B → ℕ) (marks : List ℕ) (xs : List A) →
      sizes_of octets_of (unmarked marks (map f xs)) ≡ sizes_of (λ x. octets_of (f x)) (unmarked marks xs)
  sizes_of-map octets_of marks xs = ap (sizes_of octets_of) (unmarked-map marks xs) ∙ map_numbered (λ n x. (n, octets_of x)) (unmarked marks xs)

  pub uids_of-map : (uid_of : B → Uid) (marks : List ℕ) (xs : List A) →
      uids_of uid_of (unmarked marks (map f xs)) ≡ uids_of (λ x. uid_of (f x)) (unmarked marks xs)
  uids_of-map uid_of marks xs = ap (uids_of uid_of) (unmarked-map marks xs) ∙ map_numbered (λ n x. (n, uid_of x)) (unmarked marks xs)

  total_numbered : (octets_of : B → ℕ) (rows : List (ℕ × A)) → total_of octets_of (map with_number rows) ≡ total_of (λ x. octets_of (f x)) rows
  total_numbered octets_of [] = refl
  total_numbered octets_of (row ∷ rows) =
      sum_by-cons (λ (r : ℕ × B). octets_of r.1) (with_number row) (map with_number rows)
      ∙ ap (λ (n : ℕ). octets_of (f row.1) + n) (total_numbered octets_of rows)
      ∙ sym (sum_by-cons (λ (r : ℕ × A). octets_of (f r.1)) row rows)

  pub total_of-map : (octets_of : B → ℕ) (marks : List ℕ) (xs : List A) →
      total_of octets_of (unmarked marks (map f xs)) ≡ total_of (λ x. octets_of (f x)) (unmarked marks xs)
  total_of-map octets_of marks xs = ap (total_of octets_of) (unmarked-map marks xs) ∙ total_numbered octets_of (unmarked marks xs)

  length_numbered : (rows : List (ℕ × A)) → length (map with_number rows) ≡ length rows
  length_numbered [] = refl
  length_numbered (row ∷ rows) = ap suc (length_numbered rows)

  pub length_unmarked-map : (marks : List ℕ) (xs : List A) → length (unmarked marks (map f xs)) ≡ length (unmarked marks xs)
  length_unmarked-map marks xs = ap length (unmarked-map marks xs) ∙ length_numbered (unmarked marks xs)

  pub length_marked-map : (marks : List ℕ) (xs : List A) → length (marked marks (map f xs)) ≡ length (marked marks xs)
  length_marked-map marks xs = ap length (marked-map marks xs) ∙ length_numbered (marked marks xs)

  -- ---- what QUIT removes

  map_rows : (rows : List (ℕ × A)) → map (λ (row : ℕ × B). row.1) (map with_number rows) ≡ map f (map (λ (row : ℕ × A). row.1) rows)
  map_rows [] = refl
  map_rows (row ∷ rows) = ap (λ (bs : List B). f row.1 ∷ bs) (map_rows rows)

  filter_map : (p : B → Bool) (xs : List A) → filter p (map f xs) ≡ map f (filter (λ x. p (f x)) xs)
  filter_map p [] = refl
  filter_map p (x ∷ xs) = ap (λ (fs : List B). cond (p (f x)) (f x ∷ fs) fs) (filter_map p xs) ∙ map_cond f x (filter (λ y. p (f y)) xs) (p (f x))

  pub to_remove-map : (class_of : B → List ℕ) (p : Policy) (name : LoginName) (marks : List ℕ) (xs : List A) →
      to_remove class_of p name marks (map f xs) ≡ map f (to_remove (λ x. class_of (f x)) p name marks xs)
  to_remove-map class_of p name marks xs =
      ap (λ (rows : List (ℕ × B)). filter (λ (row : B). may_remove p name (class_of row)) (map (λ (row : ℕ × B). row.1) rows)) (marked-map marks xs)
      ∙ ap (filter (λ (row : B). may_remove p name (class_of row))) (map_rows (marked marks xs))
      ∙ filter_map (λ (row : B). may_remove p name (class_of row)) (map (λ (row : ℕ × A). row.1) (marked marks xs))

  option_cond : {C : Type 0} (g : ℕ × B → C) (row : ℕ × A) (o : Option (ℕ × B)) (q : Option (ℕ × A)) → option_map g o ≡ option_map (λ r. g (with_number r)) q → (b : Bool) →
      option_map g (cond b (Some (with_number row)) o) ≡ option_map (λ r. g (with_number r)) (cond b (Some row) q)
  option_cond g row o q e true = refl
  option_cond g row o q e false = e

  find_numbered : {C : Type 0} (p : ℕ × B → Bool) (g : ℕ × B → C) (rows : List (ℕ × A)) →
      option_map g (find p (map with_number rows)) ≡ option_map (λ r. g (with_number r)) (find (λ r. p (with_number r)) rows)
  find_numbered p g [] = refl
  find_numbered p g (row ∷ rows) =
      option_cond g row (find p (map with_number rows)) (find (λ r. p (with_number r)) rows) (find_numbered p g rows) (p (with_number row))

  pub denying-map : (class_of : B → List ℕ) (p : Policy) (name : LoginName) (marks : List ℕ) (xs : List A) →
      denying class_of p name marks (map f xs) ≡ denying (λ x. class_of (f x)) p name marks xs
  denying-map class_of p name marks xs =
      ap (λ (rows : List (ℕ × B)). option_map (λ (row : ℕ × B). (removal p name (class_of row.1)).rule) (find (λ (row : ℕ × B). not (may_remove p name (class_of row.1))) rows)) (marked-map marks xs)
      ∙ find_numbered (λ (row : ℕ × B). not (may_remove p name (class_of row.1))) (λ (row : ℕ × B). (removal p name (class_of row.1)).rule) (marked marks xs)

-- ---- no marks

unmarked_none : {A : Type 0} (n : ℕ) (xs : List A) → filter (λ (row : ℕ × A). not (is_marked [] row.0)) (numbered_from n xs) ≡ numbered_from n xs
unmarked_none n [] = refl
unmarked_none {A} n (x ∷ xs) = ap (λ (rows : List (ℕ × A)). (n, x) ∷ rows) (unmarked_none (n + 1) xs)

length_numbered_from : {A : Type 0} (n : ℕ) (xs : List A) → length (numbered_from n xs) ≡ length xs
length_numbered_from n [] = refl
length_numbered_from n (x ∷ xs) = ap suc (length_numbered_from (n + 1) xs)

total_numbered_from : {A : Type 0} (octets_of : A → ℕ) (n : ℕ) (xs : List A) → total_of octets_of (numbered_from n xs) ≡ sum_by octets_of xs
total_numbered_from octets_of n [] = refl
total_numbered_from {A} octets_of n (x ∷ xs) =
    sum_by-cons (λ (r : ℕ × A). octets_of r.1) (n, x) (numbered_from (n + 1) xs)
    ∙ ap (λ (m : ℕ). octets_of x + m) (total_numbered_from octets_of (n + 1) xs)
    ∙ sym (sum_by-cons octets_of x xs)

pub all_unmarked : {A : Type 0} (xs : List A) → length (unmarked [] xs) ≡ length xs
all_unmarked xs = ap length (unmarked_none 1 xs) ∙ length_numbered_from 1 xs

pub total_unmarked : {A : Type 0} (octets_of : A → ℕ) (xs : List A) → total_of octets_of (unmarked [] xs) ≡ sum_by octets_of xs
total_unmarked octets_of xs = ap (total_of octets_of) (unmarked_none 1 xs) ∙ total_numbered_from octets_of 1 xs
