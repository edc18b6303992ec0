-- The cells of a clerk, by the rules that are about the clerk.
use Rattle.std.proofs.Common.{◌≡◌, List, refl, ap}
use Rattle.std.specs.List.{flat_map}
use Rattle.policy.specs.Policy.{Policy}
use Rattle.review.specs.declared.label.Label.{Label}
use Rattle.review.specs.declared.question.Column.{Column}
use Rattle.review.specs.CellSteps.{cell_among, json_among, json_clerk, row_of, verdicts_among}
use Rattle.review.specs.Cells.{verdicts_of}
use Rattle.review.specs.Json.{json_cell, json_cells, json_rows}
use Rattle.review.specs.Page.{cell_text, cells_of, clerk_row, rows_of}
use Rattle.review.specs.Steps.{of_clerk}
use Rattle.review.proofs.TableLemmas.{map_same}
use Rattle.review.proofs.Telling.{flat_same, split}

same_verdicts : (old new : Policy) (asked : List Column) (clerk maildrop : Label)
    → verdicts_among (of_clerk old.groups old.rules clerk) (of_clerk new.groups new.rules clerk) asked maildrop
    ≡ verdicts_of old new asked clerk maildrop
same_verdicts old new asked clerk maildrop =
    map_same _ _ asked (λ (a : Column). rw (split old clerk maildrop a, split new clerk maildrop a) refl)

same_cell : (old new : Policy) (asked : List Column) (clerk maildrop : Label)
    → cell_among (of_clerk old.groups old.rules clerk) (of_clerk new.groups new.rules clerk) asked maildrop
    ≡ cell_text (verdicts_of old new asked clerk maildrop)
unfolding cell_among
same_cell old new asked clerk maildrop = ap cell_text (same_verdicts old new asked clerk maildrop)

same_row : (old new : Policy) (asked : List Column) (maildrops : List Label) (clerk : Label)
    → row_of old new asked maildrops clerk ≡ clerk_row clerk (cells_of old new asked maildrops clerk)
unfolding row_of
same_row old new asked maildrops clerk =
    ap (clerk_row clerk) (flat_same _ _ maildrops (same_cell old new asked clerk))

pub same_rows : (old new : Policy) (asked : List Column) (maildrops clerks : List Label)
    → flat_map (row_of old new asked maildrops) clerks ≡ rows_of old new asked maildrops clerks
same_rows old new asked maildrops clerks = flat_same _ _ clerks (same_row old new asked maildrops)

same_json_cell : (p : Policy) (asked : List Column) (clerk maildrop : Label)
    → json_among p.rules clerk (of_clerk p.groups p.rules clerk) asked maildrop
    ≡ json_cell p.rules clerk maildrop (verdicts_of p p asked clerk maildrop)
unfolding json_among
same_json_cell p asked clerk maildrop =
    ap (json_cell p.rules clerk maildrop) (same_verdicts p p asked clerk maildrop)

same_json : (p : Policy) (asked : List Column) (maildrops : List Label) (clerk : Label)
    → json_clerk p asked maildrops clerk ≡ json_cells p asked maildrops clerk
unfolding json_clerk
same_json p asked maildrops clerk = flat_same _ _ maildrops (same_json_cell p asked clerk)

pub same_json_rows : (p : Policy) (asked : List Column) (maildrops clerks : List Label)
    → flat_map (json_clerk p asked maildrops) clerks ≡ json_rows p asked maildrops clerks
same_json_rows p asked maildrops clerks = flat_same _ _ clerks (same_json p asked maildrops)
