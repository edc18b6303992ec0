-- Listings, row by row.
use Rattle.std.proofs.Common.{◌≡◌, ℕ, List, [], ◌∷◌, ◌++◌, ◌∙◌, ap, append_assoc}
use Rattle.std.proofs.lemmas.List.{flat_map_more}
use Rattle.popline.specs.Replies.{one_line, begun_listing}

-- a row after a listing that has begun is one row more of it
pub listing_more : {A : Type 0} (first : List ℕ) (line : A → List ℕ) (row : A) (old new : List ℕ) → new ≡ old ++ one_line (line row)
    → (front : List ℕ) (rows : List A) → old ≡ front ++ begun_listing first line rows → new ≡ front ++ begun_listing first line (rows ++ row ∷ [])
listing_more first line row old new e front rows h =
    e ∙ (ap (λ x. x ++ one_line (line row)) h
    ∙ (append_assoc front (begun_listing first line rows) (one_line (line row)) ∙ ap (λ x. front ++ x) (flat_map_more (λ r. one_line (line r)) (one_line first) rows row)))
