-- What the cells of a page and of JSON are put together from, clerk by clerk.
use Rattle.std.specs.Prelude.{ℕ, List, map}
use Rattle.std.specs.List.{flat_map}
use Rattle.policy.specs.Policy.{Policy}
use Rattle.policy.specs.declared.rule.Rule.{Rule}
use Rattle.review.specs.declared.cells.Verdict.{Verdict}
use Rattle.review.specs.declared.label.Label.{Label}
use Rattle.review.specs.declared.question.Column.{Column}
use Rattle.review.specs.Json.{json_cell}
use Rattle.review.specs.Page.{cell_text, clerk_row}
use Rattle.review.specs.Steps.{decide_among, of_clerk, of_maildrop}

-- what the rules that are about the clerk and the maildrop decide of a column
abbrev pub verdict_among : (olds news : List Rule) → Column → Verdict
verdict_among olds news asked =
    record { asked = asked; was = decide_among olds asked; is = decide_among news asked }

-- of each column, by the rules that are about the clerk
abbrev pub verdicts_among : (olds news : List Rule) → List Column → Label → List Verdict
verdicts_among olds news asked maildrop =
    map (verdict_among (of_maildrop olds maildrop) (of_maildrop news maildrop)) asked

-- the cell of a maildrop, by the rules that are about the clerk
unfoldable pub cell_among : (olds news : List Rule) → List Column → (maildrop : Label) → List ℕ
cell_among olds news asked maildrop = cell_text (verdicts_among olds news asked maildrop)

-- a clerk's row
unfoldable pub row_of : (old new : Policy) → List Column → (maildrops : List Label)
    → (clerk : Label) → List ℕ
row_of old new asked maildrops clerk =
    clerk_row clerk (flat_map (cell_among (of_clerk old.groups old.rules clerk)
    (of_clerk new.groups new.rules clerk) asked) maildrops)

-- the cell of JSON of a maildrop, by those of the rules that are about the clerk
unfoldable pub json_among : List Rule → (clerk : Label) → (some : List Rule) → List Column
    → (maildrop : Label) → List ℕ
json_among rules clerk some asked maildrop =
    json_cell rules clerk maildrop (verdicts_among some some asked maildrop)

-- those of a clerk
unfoldable pub json_clerk : Policy → List Column → (maildrops : List Label) → (clerk : Label)
    → List ℕ
json_clerk p asked maildrops clerk =
    flat_map (json_among p.rules clerk (of_clerk p.groups p.rules clerk) asked) maildrops
