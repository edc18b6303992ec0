-- Lines as words between spaces.
use Rattle.std.proofs.Common.{◌≡◌, ℕ, ◌+◌, ◌-◌, ◌<◌, ◌≤◌, List, [], ◌∷◌, ◌++◌, Bool, true, false, cond, length, take, drop, get_or, refl, sym, ◌∙◌, ap, arith, ⊎_elim, take_all}
use Rattle.std.proofs.Common.{Option, Some, None, le-ltb, lt-ltb}
use Rattle.std.proofs.lemmas.Bool.{cases_lt}
use Rattle.std.proofs.lemmas.List.Sums.{fails_before_first}
use Rattle.std.proofs.lemmas.List.Splits.{slice_split_first, slice_split_none}
use Rattle.std.specs.List.{slice_split, position, position_or_len}
use Rattle.std.specs.List.{onto_first, list_all}
use Rattle.std.proofs.lemmas.List.{take_more}
use Rattle.std.proofs.lemmas.List.Folds.{list_all-append}
use Rattle.std.proofs.Math.Bool.{and-true, and-false}
use Rattle.popline.specs.Commands.{is_space, trimmed, arguments, with_arguments}
use Rattle.popline.specs.declared.command.Keyword.{Keyword}

-- ---- the first space

-- a line without a space is one word
pub split_nowhere : (xs : List ℕ) → length xs ≤ position_or_len is_space xs → slice_split is_space xs ≡ xs ∷ []
split_nowhere xs h = slice_split_none is_space xs (λ k d lt. let more : k < position_or_len is_space xs = omega arith in fails_before_first is_space xs k d more)

pub split_at_space : (xs : List ℕ) (i : ℕ) → position is_space xs ≡ Some i → slice_split is_space xs ≡ take i xs ∷ slice_split is_space (drop (i + 1) xs)
split_at_space xs i e = ⊎_elim
    (λ (lt : position_or_len is_space xs < length xs).
    let at : Some (position_or_len is_space xs) ≡ Some i = rw lt-ltb at e in
    let same : position_or_len is_space xs ≡ i = cc in
    rw (← same) (slice_split_first is_space xs 0 lt))
    (λ (le : length xs ≤ position_or_len is_space xs).
    let at : ◌≡◌ {A = Option ℕ} None (Some i) = rw le-ltb at e in cc)
    (cases_lt (position_or_len is_space xs) (length xs))

pub split_at_none : (xs : List ℕ) → position is_space xs ≡ None → slice_split is_space xs ≡ xs ∷ []
split_at_none xs e = ⊎_elim
    (λ (lt : position_or_len is_space xs < length xs).
    let at : ◌≡◌ {A = Option ℕ} (Some (position_or_len is_space xs)) None = rw lt-ltb at e in cc)
    (λ (le : length xs ≤ position_or_len is_space xs). split_nowhere xs le)
    (cases_lt (position_or_len is_space xs) (length xs))

-- a further part is a list of words with at least one
pub split_more : (xs : List ℕ) → (w : List ℕ) × (ws : List (List ℕ)) × (slice_split is_space xs ≡ w ∷ ws)
split_more [] = ([], [], refl)
split_more (x ∷ xs) = split_more_by x xs (is_space x) (split_more xs)
  where
    split_more_by : (x : ℕ) (xs : List ℕ) (t : Bool) → (w : List ℕ) × (ws : List (List ℕ)) × (slice_split is_space xs ≡ w ∷ ws)
        → (w : List ℕ) × (ws : List (List ℕ)) × (cond t ([] ∷ slice_split is_space xs) (onto_first x (slice_split is_space xs)) ≡ w ∷ ws)
    split_more_by x xs true h = ([], slice_split is_space xs, refl)
    split_more_by x xs false (w, ws, e) = (x ∷ w, ws, ap (onto_first x) e)

-- ---- spaces at the end

pub all_space_more : (xs : List ℕ) → list_all is_space (xs ++ 32 ∷ []) ≡ list_all is_space xs
all_space_more xs = list_all-append is_space xs (32 ∷ []) ∙ and-true (list_all is_space xs)

pub trimmed-space : (xs : List ℕ) → trimmed (xs ++ 32 ∷ []) ≡ trimmed xs
trimmed-space [] = refl
trimmed-space (x ∷ xs) = rw (all_space_more xs, trimmed-space xs) refl

-- nothing is trimmed from a line whose end isn't trimmed
pub trimmed-solid : (xs : List ℕ) (b : ℕ) → is_space b ≡ false → trimmed (xs ++ b ∷ []) ≡ xs ++ b ∷ []
trimmed-solid [] b h = rw h refl
trimmed-solid (x ∷ xs) b h =
    let all : list_all is_space (xs ++ b ∷ []) ≡ false = list_all-append is_space xs (b ∷ []) ∙ rw h (and-false (list_all is_space xs)) in
    rw (all, and-false (is_space x), trimmed-solid xs b h) refl

pub front_and_last : (xs : List ℕ) → 0 < length xs → take (length xs - 1) xs ++ get_or xs (length xs - 1) 0 ∷ [] ≡ xs
front_and_last xs h =
    let lt : length xs - 1 < length xs = omega arith in
    let e : length xs - 1 + 1 ≡ length xs = omega arith in
    sym (take_more xs (length xs - 1) 0 lt) ∙ (ap (λ n. take n xs) e ∙ (let all : length xs ≤ length xs = omega arith in take_all (length xs) xs all))

pub trimmed-front : (xs : List ℕ) → 0 < length xs → get_or xs (length xs - 1) 0 ≡ 32 → trimmed (take (length xs - 1) xs) ≡ trimmed xs
trimmed-front xs h e =
    sym (trimmed-space (take (length xs - 1) xs)) ∙ ap trimmed (ap (λ b. take (length xs - 1) xs ++ b ∷ []) (sym e) ∙ front_and_last xs h)

pub trimmed-whole : (xs : List ℕ) → 0 < length xs → is_space (get_or xs (length xs - 1) 0) ≡ false → trimmed xs ≡ xs
trimmed-whole xs h e = ap trimmed (sym (front_and_last xs h)) ∙ (trimmed-solid (take (length xs - 1) xs) (get_or xs (length xs - 1) 0) e ∙ front_and_last xs h)

-- ---- the arguments of a line

-- no command has three arguments or more
pub with_arguments-three : (k : Keyword) (line a b rest : List ℕ) (w : List ℕ)
    → slice_split is_space (trimmed line) ≡ w ∷ slice_split is_space a → slice_split is_space a ≡ b ∷ slice_split is_space rest
    → (c : List ℕ) (more : List ℕ) → slice_split is_space rest ≡ c ∷ slice_split is_space more
    → with_arguments k (arguments line) ≡ None
with_arguments-three k line a b rest w e f c more g = let (d, ds, h) = split_more more in rw (e, f, g, h) refl
