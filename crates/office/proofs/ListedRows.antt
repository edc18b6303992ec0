-- The rows of a listing that are put one after the other.
use Rattle.std.proofs.Common.{◌≡◌, ℕ, ◌+◌, List, [], ◌∷◌, ◌++◌, drop, sym, ◌∙◌, ap, Option, Some, None, append-nil, append_assoc, drop-drop}
use Rattle.std.proofs.lemmas.List.Concat.{flat_map-cons}
use Rattle.std.specs.List.{flat_map}
use Rattle.std.specs.Prelude.{MatchOption}
use Rattle.office.specs.Output.{last_line}

-- the rows after one more
pub next_behind : {A : Type 0} (r : Option A) (all rows new : List A) (n : ℕ) → rows ≡ drop n all → MatchOption r ((rows ≡ []) × (new ≡ [])) (λ x. rows ≡ x ∷ new) → new ≡ drop (n + 1) all
next_behind None all rows new n e h = h.1 ∙ (ap (drop 1) (sym h.0 ∙ e) ∙ drop-drop 1 n all)
next_behind (Some x) all rows new n e h = ap (drop 1) (sym h ∙ e) ∙ drop-drop 1 n all

module _ {A : Type 0} (line : A → List ℕ) (all : List A) (done : ℕ) (ready : List ℕ) where
  -- what is still to be put after so many
  abbrev coming : ℕ → List ℕ
  coming n = flat_map line (drop n all) ++ last_line

  -- a row more is put
  pub row_put : (x : A) (rest : List A) (after : List ℕ) → drop done all ≡ x ∷ rest → after ≡ ready ++ line x → ready ++ coming done ≡ after ++ coming (done + 1)
  row_put x rest after e put =
      let behind : rest ≡ drop (done + 1) all = ap (drop 1) (sym e) ∙ drop-drop 1 done all in
      let first : flat_map line (drop done all) ≡ line x ++ flat_map line (drop (done + 1) all) =
      ap (flat_map line) e ∙ (flat_map-cons line x rest ∙ ap (λ xs. line x ++ flat_map line xs) behind) in
      ap (λ xs. ready ++ (xs ++ last_line)) first
      ∙ (ap (λ xs. ready ++ xs) (append_assoc (line x) (flat_map line (drop (done + 1) all)) last_line)
      ∙ (sym (append_assoc ready (line x) (coming (done + 1))) ∙ ap (λ xs. xs ++ coming (done + 1)) (sym put)))

  -- no row is left
  pub rows_put : (after : List ℕ) → drop done all ≡ [] → after ≡ ready ++ last_line → ready ++ coming done ≡ after ++ []
  rows_put after e put = ap (λ xs. ready ++ (flat_map line xs ++ last_line)) e ∙ (sym put ∙ sym (append-nil after))

-- a listing that has begun, and all its rows after it
pub begun_whole : (first rows ready : List ℕ) → ready ≡ first ++ [] → ready ++ (rows ++ last_line) ≡ (first ++ rows) ++ last_line
begun_whole first rows ready e = ap (λ xs. xs ++ (rows ++ last_line)) (e ∙ append-nil first) ∙ sym (append_assoc first rows last_line)
