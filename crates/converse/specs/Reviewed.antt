-- What is printed of a review of a policy's text, whole or in part.
use Rattle.std.specs.Prelude.{◌≡◌, ℕ, Bool, true, false, List}
use Rattle.policy.specs.Policy.{Policy}
use Rattle.converse.specs.PolicyFile.{IsPolicyText}
use Rattle.converse.specs.Streams.{Writing, Writes, WritesPart}
use Rattle.review.specs.declared.choice.Choice.{Choice}
use Rattle.review.specs.Names.{Kept, nobody}
use Rattle.review.specs.Review.{against_text, changes_of, has_lines, review_text, stored_text}

-- of a policy's text: the policy's review is printed
abbrev pub TellsReview : Choice → (text : List ℕ) → (before now : Writing) → Type 0
TellsReview choice text before now =
    (policy : Policy) × IsPolicyText text policy × Writes before now (review_text choice text policy)

-- or a part of it
abbrev pub TellsReviewPart : Choice → (text : List ℕ) → (before now : Writing) → Type 0
TellsReviewPart choice text before now =
    (policy : Policy) × IsPolicyText text policy
    × WritesPart before now (review_text choice text policy)

-- 3 if a decision differs, else 0
abbrev pub status_of : (differ : Bool) → ℕ
status_of true = 3
status_of false = 0

-- of two policies' texts: the new policy's review against the old one is printed; the status tells
-- whether a decision differs
abbrev pub TellsChange : Choice → (status : ℕ) → (old_text text : List ℕ) → (before now : Writing)
    → Type 0
TellsChange choice status old_text text before now =
    (old : Policy) × (new : Policy) × IsPolicyText old_text old × IsPolicyText text new
    × (status ≡ status_of (has_lines (changes_of choice old new nobody)))
    × Writes before now (against_text choice text old new nobody)

-- or a part of it
abbrev pub TellsChangePart : Choice → (old_text text : List ℕ) → (before now : Writing) → Type 0
TellsChangePart choice old_text text before now =
    (old : Policy) × (new : Policy) × IsPolicyText old_text old × IsPolicyText text new
    × WritesPart before now (against_text choice text old new nobody)

-- of a policy's text: its review against the old policy is printed, beside a store with these names
abbrev pub TellsStored : Choice → (status : ℕ) → (old : Policy) → Kept → (text : List ℕ)
    → (before now : Writing) → Type 0
TellsStored choice status old kept text before now =
    (new : Policy) × IsPolicyText text new
    × (status ≡ status_of (has_lines (changes_of choice old new kept)))
    × Writes before now (stored_text choice text old new kept)

-- or a part of it
abbrev pub TellsStoredPart : Choice → Policy → Kept → (text : List ℕ) → (before now : Writing)
    → Type 0
TellsStoredPart choice old kept text before now =
    (new : Policy) × IsPolicyText text new
    × WritesPart before now (stored_text choice text old new kept)

-- the same against the policy of another text
abbrev pub TellsStoredChange : Choice → (status : ℕ) → Kept → (old_text text : List ℕ)
    → (before now : Writing) → Type 0
TellsStoredChange choice status kept old_text text before now =
    (old : Policy) × IsPolicyText old_text old
    × TellsStored choice status old kept text before now

-- or a part of it
abbrev pub TellsStoredChangePart : Choice → Kept → (old_text text : List ℕ)
    → (before now : Writing) → Type 0
TellsStoredChangePart choice kept old_text text before now =
    (old : Policy) × IsPolicyText old_text old × TellsStoredPart choice old kept text before now
