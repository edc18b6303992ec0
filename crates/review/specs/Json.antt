-- A review as JSON (RFC 8259): for each clerk and maildrop the rules that decide, by number.
use Rattle.std.specs.Prelude.{ℕ, ◌+◌, ◌==◌, Bool, true, false, ◌&&◌, not, List, [], ◌++◌, codes}
use Rattle.std.specs.Prelude.{Option, Some, None}
use Rattle.std.specs.Fmt.{decimal}
use Rattle.std.specs.List.{flat_map, position}
use Rattle.std.specs.Str.{bytes_eq}
use Rattle.policy.specs.Policy.{Policy}
use Rattle.policy.specs.declared.decide.Decision.{Decision}
use Rattle.policy.specs.declared.rule.Rule.{Rule}
use Rattle.review.specs.declared.cells.Verdict.{Verdict}
use Rattle.review.specs.declared.label.Label.{Label}
use Rattle.review.specs.declared.question.Column.{Column}
use Rattle.review.specs.declared.question.Column.TheVariants as column
use Rattle.review.specs.Cells.{class_of, rest_of, tagged, verdicts_of}
use Rattle.review.specs.Differences.{label_text, text_if}
use Rattle.review.specs.Questions.{columns}

-- the number of the rule at a place, counted from 1; 0 if there is none
abbrev pub number_at : Option ℕ → ℕ
number_at None = 0
number_at (Some n) = n + 1

-- the number of the rule of that name
abbrev pub number_of : List Rule → (name : List ℕ) → ℕ
number_of rules name = number_at (position (λ r. bytes_eq r.name name) rules)

-- a rule that allows by its number, one that denies by its number below zero, no rule by 0
abbrev pub signed : (allowed : Bool) → ℕ → List ℕ
signed allowed n = text_if (not allowed && not (n == 0)) (codes "-") ++ decimal n

-- the number of the rule that decides
abbrev pub decision_number : List Rule → Decision → List ℕ
decision_number rules d = signed d.allowed (number_of rules d.rule)

-- ---- lists

-- a text in quotes, after a comma; no name needs an escape
unfoldable pub comma_quoted : List ℕ → List ℕ
comma_quoted text = codes ",\"" ++ text ++ codes "\""

-- the labels
abbrev pub labels_list : List Label → List ℕ
labels_list labels = rest_of (flat_map (λ label. comma_quoted (label_text label)) labels)

-- the rules' names
abbrev pub rules_list : List Rule → List ℕ
rules_list rules = rest_of (flat_map (λ r. comma_quoted r.name) rules)

-- a decision about what is read, or what is removed, after a comma
abbrev pub comma_number : Option Label → (number : List ℕ) → List ℕ
comma_number None number = []
comma_number (Some class) number = codes "," ++ number

-- of one of the decisions
abbrev pub verdict_number : (remove : Bool) → List Rule → Verdict → List ℕ
verdict_number remove rules v =
    comma_number (class_of remove v.asked) (decision_number rules v.is)

-- the decisions about what is read, or about what is removed, by the order of the classes
abbrev pub numbers_list : (remove : Bool) → List Rule → List Verdict → List ℕ
numbers_list remove rules vs = rest_of (flat_map (verdict_number remove rules) vs)

-- a decision about opening the maildrop
abbrev pub open_number : List Rule → Column → Decision → List ℕ
open_number rules column.Open d = decision_number rules d
open_number rules (column.Read class) d = []
open_number rules (column.Remove class) d = []

-- ---- cells

-- a clerk and a maildrop, after a comma
unfoldable pub pair_text : (clerk maildrop : Label) → List ℕ
pair_text clerk maildrop =
    tagged (codes ",\n{\"clerk\":\"") clerk (codes "\",")
    ++ tagged (codes "\"maildrop\":\"") maildrop (codes "\",\"open\":")

-- the decisions
unfoldable pub numbers_text : List Rule → List Verdict → List ℕ
numbers_text rules vs =
    flat_map (λ v. open_number rules v.asked v.is) vs ++ codes ",\"read\":["
    ++ numbers_list false rules vs ++ codes "],\"remove\":[" ++ numbers_list true rules vs
    ++ codes "]}"

-- what a clerk may do in a maildrop
abbrev pub json_cell : List Rule → (clerk maildrop : Label) → List Verdict → List ℕ
json_cell rules clerk maildrop vs = pair_text clerk maildrop ++ numbers_text rules vs

-- of a clerk, a maildrop each
abbrev pub json_cells : Policy → List Column → (maildrops : List Label) → (clerk : Label) → List ℕ
json_cells p asked maildrops clerk =
    flat_map (λ maildrop. json_cell p.rules clerk maildrop (verdicts_of p p asked clerk maildrop))
    maildrops

-- of all clerks
abbrev pub json_rows : Policy → List Column → (maildrops clerks : List Label) → List ℕ
json_rows p asked maildrops clerks = flat_map (json_cells p asked maildrops) clerks

-- ---- the text

-- the names, and the cells
unfoldable pub json_of : (classes rules cells : List ℕ) → List ℕ
json_of classes rules cells =
    codes "{\"classes\":[" ++ classes ++ codes "],\n\"rules\":[" ++ rules
    ++ codes "],\n\"cells\":[" ++ cells ++ codes "]}\n"

-- who may do what; without the cells, if no table is wanted
abbrev pub json_text : (table : Bool) → Policy → (clerks maildrops classes : List Label) → List ℕ
json_text table p clerks maildrops classes =
    json_of (labels_list classes) (rules_list p.rules)
    (rest_of (text_if table (json_rows p (columns classes) maildrops clerks)))
