-- What a review prints.
use Rattle.std.specs.Prelude.{◌≢◌, ℕ, Bool, true, false, ◌&&◌, not, List, [], ◌∷◌, ◌++◌, codes, Option, Some, None, is_some}
use Rattle.std.specs.List.{AllPairs, list_any}
use Rattle.policy.specs.Policy.{Policy}
use Rattle.review.specs.declared.choice.Choice.{Choice}
use Rattle.review.specs.declared.label.Label.{Label}
use Rattle.review.specs.declared.label.Label.TheVariants.{Named}
use Rattle.review.specs.declared.choice.Format.{Format}
use Rattle.review.specs.declared.choice.Format.TheVariants.{Text, Csv, Html, Json}
use Rattle.review.specs.declared.report.Beside.{Beside}
use Rattle.review.specs.declared.report.Beside.TheVariants.{Nothing, Old, Store}
use Rattle.review.specs.declared.rows.LineForm.TheVariants as line
use Rattle.review.specs.Json.{json_text}
use Rattle.review.specs.Page.{page_text}
use Rattle.review.specs.Covers.{covered_text}
use Rattle.review.specs.Differences.{differences, differences_text, questions, text_if}
use Rattle.review.specs.declared.question.Question.{Question}
use Rattle.review.specs.Names.{Kept, classes_in, clerks_in, is_of, labels, maildrops_in, nobody}
use Rattle.review.specs.Notes.{missing_lines}
use Rattle.review.specs.Questions.{columns}
use Rattle.review.specs.Table.{answers_text, csv_head, tables_text}

-- the one that was chosen, or all
abbrev pub chosen : Option (List ℕ) → List Label → List Label
chosen None all = all
chosen (Some name) all = Named name ∷ []

-- the clerks that a review of two policies speaks of, beside a store that has some
abbrev pub clerks_of : Choice → (old new : Policy) → Kept → List Label
clerks_of choice old new kept = chosen choice.clerk (labels (clerks_in old ++ clerks_in new ++ kept.clerks))

-- the maildrops
abbrev pub maildrops_of : Choice → (old new : Policy) → Kept → List Label
maildrops_of choice old new kept =
    chosen choice.maildrop (labels (maildrops_in old ++ maildrops_in new ++ kept.maildrops))

-- the classes
abbrev pub classes_of : (old new : Policy) → List Label
classes_of old new = labels (classes_in old ++ classes_in new)

-- one clerk and one maildrop are chosen
abbrev pub is_narrow : Choice → Bool
is_narrow choice = is_some choice.clerk && is_some choice.maildrop

-- who may do what for a reader: a line for each question if one clerk and one maildrop are chosen, else tables
abbrev pub plain_text : (narrow : Bool) → Policy → (clerks maildrops classes : List Label) → List ℕ
plain_text true p clerks maildrops classes = answers_text line.Text p (questions clerks maildrops (columns classes))
plain_text false p clerks maildrops classes = tables_text p clerks maildrops classes

-- the same as CSV
abbrev pub csv_text : Policy → (clerks maildrops classes : List Label) → List ℕ
csv_text p clerks maildrops classes =
    csv_head ++ answers_text line.Csv p (questions clerks maildrops (columns classes))

-- the lines, or the word for none
abbrev pub or_none : List ℕ → List ℕ
or_none [] = codes "no decision differs\n"
or_none (b ∷ bs) = b ∷ bs

-- there are lines
abbrev pub has_lines : List ℕ → Bool
has_lines [] = false
has_lines (b ∷ bs) = true

-- that nothing has the name that was chosen
unfoldable pub unknown_note : (what name : List ℕ) → List ℕ
unknown_note what name = codes "note: " ++ what ++ codes " " ++ name ++ codes " is named nowhere: decided as (others)\n"

-- of a name, if none of the labels is its
abbrev pub name_note : (what name : List ℕ) → (all : List Label) → List ℕ
name_note what name all = text_if (not (list_any (is_of name) all)) (unknown_note what name)

-- of the one that was chosen
abbrev pub chosen_note : (what : List ℕ) → Option (List ℕ) → (all : List Label) → List ℕ
chosen_note what None all = []
chosen_note what (Some name) all = name_note what name all

-- of the clerk and of the maildrop
abbrev pub unknown_names : Choice → (old new : Policy) → Kept → List ℕ
unknown_names choice old new kept =
    chosen_note (codes "clerk") choice.clerk (labels (clerks_in old ++ clerks_in new ++ kept.clerks))
    ++ chosen_note (codes "maildrop") choice.maildrop (labels (maildrops_in old ++ maildrops_in new ++ kept.maildrops))

-- what to look at: rules that never decide, those that were chosen and are named nowhere, and
-- beside a store what the policy speaks of and the store doesn't have
abbrev pub notes_text : (stored : Bool) → Choice → (old new : Policy) → Kept → List ℕ
notes_text stored choice old new kept =
    covered_text new ++ unknown_names choice old new kept ++ text_if stored (missing_lines new kept)

-- the questions that a review of two policies asks
abbrev pub asked_of : Choice → (old new : Policy) → Kept → List Question
asked_of choice old new kept =
    questions (clerks_of choice old new kept) (maildrops_of choice old new kept) (columns (classes_of old new))

-- the lines of what the new policy changes
abbrev pub changes_of : Choice → (old new : Policy) → Kept → List ℕ
changes_of choice old new kept = differences_text old new (asked_of choice old new kept)

-- what a review of a policy is beside: no other policy; an old one; an old one and a store
abbrev pub compares : Beside → Bool
compares Nothing = false
compares Old = true
compares Store = true

-- it is beside a store
abbrev pub has_store : Beside → Bool
has_store Nothing = false
has_store Old = false
has_store Store = true

-- the review in each of its forms, by the labels that it speaks of, the lines of what changes, the
-- notes, and the text that the policy was read from
abbrev pub written : Format → (table compared narrow : Bool) → (old new : Policy)
    → (clerks maildrops classes : List Label) → (changes notes source : List ℕ) → List ℕ
written Text table compared narrow old new clerks maildrops classes changes notes source =
    text_if table (plain_text narrow new clerks maildrops classes)
    ++ text_if compared (or_none changes) ++ notes
written Csv table compared narrow old new clerks maildrops classes changes notes source =
    text_if table (csv_text new clerks maildrops classes)
written Html table compared narrow old new clerks maildrops classes changes notes source =
    page_text table compared old new clerks maildrops classes notes source
written Json table compared narrow old new clerks maildrops classes changes notes source =
    json_text table new clerks maildrops classes

-- the review of the new policy, which was read from this text
abbrev pub reviewed : Beside → Choice → (source : List ℕ) → (old new : Policy) → Kept → List ℕ
reviewed beside choice source old new kept =
    written choice.format (not choice.only_changes) (compares beside) (is_narrow choice) old new
    (clerks_of choice old new kept) (maildrops_of choice old new kept) (classes_of old new)
    (changes_of choice old new kept) (notes_text (has_store beside) choice old new kept) source

-- the review of one policy
abbrev pub review_text : Choice → (source : List ℕ) → Policy → List ℕ
review_text choice source p = reviewed Nothing choice source p p nobody

-- the review of a policy against the old one
abbrev pub against_text : Choice → (source : List ℕ) → (old new : Policy) → Kept → List ℕ
against_text choice source old new kept = reviewed Old choice source old new kept

-- the review beside a store: against the old policy, and with what the store doesn't have
abbrev pub stored_text : Choice → (source : List ℕ) → (old new : Policy) → Kept → List ℕ
stored_text choice source old new kept = reviewed Store choice source old new kept

-- ---- a law

-- no question is asked twice, and no difference is printed twice
pub record ToldOnce : Type 0 where
  pub asked : (choice : Choice) (old new : Policy) (kept : Kept) → AllPairs (λ q r. q ≢ r) (asked_of choice old new kept)
  pub told : (choice : Choice) (old new : Policy) (kept : Kept)
      → AllPairs (λ q r. q ≢ r) (differences old new (asked_of choice old new kept))
