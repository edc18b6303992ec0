-- What the texts are put together from: a clerk's groups; the lines of one clerk and one maildrop, of one clerk, and of all.
use Rattle.std.specs.Prelude.{ℕ, Bool, true, false, List, [], ◌∷◌, ◌++◌, codes, find, map}
use Rattle.std.specs.List.{filter, flat_map, list_any}
use Rattle.std.specs.Str.{bytes_eq}
use Rattle.policy.specs.declared.decide.Decision.{Decision}
use Rattle.policy.specs.declared.rule.Clerks.{Clerks}
use Rattle.policy.specs.declared.rule.Clerks.TheVariants as clerks
use Rattle.policy.specs.declared.rule.Rule.{Rule}
use Rattle.policy.specs.Policy.{Group, Policy, decision_of, has_member}
use Rattle.review.specs.declared.label.Label.{Label}
use Rattle.review.specs.declared.label.Label.TheVariants.{Named, Others}
use Rattle.review.specs.declared.question.Column.{Column}
use Rattle.review.specs.declared.question.Column.TheVariants as column
use Rattle.review.specs.Questions.{fits_label, has_clerk, is_about}
use Rattle.review.specs.declared.question.Question.{Question}
use Rattle.review.specs.declared.rows.LineForm.{LineForm}
use Rattle.review.specs.Differences.{becomes, change_line, text_if}
use Rattle.review.specs.Table.{Row, answer_line, class_cell, lines_text, mark, table_head}

-- the first of the rules that is about the column decides
abbrev pub decide_among : List Rule → Column → Decision
decide_among rules asked = decision_of (find (is_about asked) rules)

-- the rules that are about the clerk
abbrev pub of_clerk : List Group → List Rule → (clerk : Label) → List Rule
of_clerk groups rules clerk = filter (λ r. has_clerk groups r.clerk clerk) rules

-- the rules that are about the maildrop
abbrev pub of_maildrop : List Rule → (maildrop : Label) → List Rule
of_maildrop rules maildrop = filter (λ r. fits_label r.maildrop maildrop) rules

-- ---- a clerk and the clerk's groups

-- a clerk, and the names of the groups that have the clerk
pub record Member : Type 0 where
  pub label : Label
  pub groups : List (List ℕ)

-- the name, if the test holds
abbrev pub name_if : Bool → (name : List ℕ) → List (List ℕ)
name_if true name = name ∷ []
name_if false name = []

-- the names of the groups that have the clerk of that name
abbrev pub names_of_groups : List Group → (clerk : List ℕ) → List (List ℕ)
names_of_groups groups clerk = flat_map (λ g. name_if (has_member g clerk) g.name) groups

-- all others are in no group
abbrev pub groups_of : List Group → (clerk : Label) → List (List ℕ)
groups_of groups (Named name) = names_of_groups groups name
groups_of groups Others = []

-- the clerk with the clerk's groups
abbrev pub member_of : List Group → (clerk : Label) → Member
member_of groups clerk = record { label = clerk; groups = groups_of groups clerk }

-- the label is that name's
abbrev pub is_label_of : (name : List ℕ) → Label → Bool
is_label_of name (Named other) = bytes_eq name other
is_label_of name Others = false

-- the name is one of these
abbrev pub is_among : (name : List ℕ) → List (List ℕ) → Bool
is_among name names = list_any (λ x. bytes_eq name x) names

-- the rule's clerks have this one among them
abbrev pub fits_member : Clerks → Member → Bool
fits_member clerks.Any m = true
fits_member (clerks.Is name) m = is_label_of name m.label
fits_member (clerks.MembersOf name) m = is_among name m.groups

-- the rules that are about this clerk
abbrev pub of_member : List Rule → Member → List Rule
of_member rules m = filter (λ r. fits_member r.clerk m) rules

-- ---- the differences

-- the line of a question, if its answer becomes so
abbrev pub told : (allowed : Bool) → Question → (was is : Decision) → List ℕ
told allowed q was is = text_if (becomes allowed was is) (change_line q was is)

-- the lines of the columns, by the rules that are about the clerk and the maildrop
abbrev pub told_column : (allowed : Bool) → (clerk maildrop : Label) → (olds news : List Rule) → Column → List ℕ
told_column allowed clerk maildrop olds news asked =
    told allowed (record { clerk = clerk; maildrop = maildrop; asked = asked }) (decide_among olds asked) (decide_among news asked)

-- the lines of a maildrop, by the rules that are about the clerk
unfoldable pub told_maildrop : (allowed : Bool) → (clerk : Label) → List Column → (olds news : List Rule) → (maildrop : Label) → List ℕ
told_maildrop allowed clerk asked olds news maildrop =
    flat_map (told_column allowed clerk maildrop (of_maildrop olds maildrop) (of_maildrop news maildrop)) asked

-- the lines of a clerk
unfoldable pub told_clerk : (allowed : Bool) → (old new : Policy) → (maildrops : List Label) → List Column → (clerk : Label) → List ℕ
told_clerk allowed old new maildrops asked clerk =
    flat_map (told_maildrop allowed clerk asked (of_clerk old.groups old.rules clerk) (of_clerk new.groups new.rules clerk)) maildrops

-- ---- a line for each question

-- the lines of a clerk and a maildrop, by the rules that are about both
abbrev pub answers_column : LineForm → (clerk maildrop : Label) → List Rule → Column → List ℕ
answers_column format clerk maildrop rules asked = answer_line format (record { clerk = clerk; maildrop = maildrop; asked = asked }) (decide_among rules asked)

-- those of a maildrop, by the rules that are about the clerk
unfoldable pub answers_maildrop : LineForm → (clerk : Label) → List Column → List Rule → (maildrop : Label) → List ℕ
answers_maildrop format clerk asked rules maildrop = flat_map (answers_column format clerk maildrop (of_maildrop rules maildrop)) asked

-- those of a clerk
unfoldable pub answers_clerk : LineForm → Policy → (maildrops : List Label) → List Column → (clerk : Label) → List ℕ
answers_clerk format p maildrops asked clerk = flat_map (answers_maildrop format clerk asked (of_clerk p.groups p.rules clerk)) maildrops

-- ---- tables

-- the marks of the classes, by the rules that are about the clerk and the maildrop
abbrev pub cells : List Rule → (classes : List Label) → List ℕ
cells rules classes =
    flat_map (λ class. class_cell class ((decide_among rules (column.Read class)).allowed) ((decide_among rules (column.Remove class)).allowed)) classes

-- all marks
abbrev pub marks_among : List Rule → (classes : List Label) → List ℕ
marks_among rules classes = mark ((decide_among rules column.Open).allowed) ++ codes "     " ++ cells rules classes

-- a clerk's row, by the rules that are about the maildrop
abbrev pub row_among : List Rule → (classes : List Label) → Member → Row
row_among rules classes m = record { clerk = m.label; marks = marks_among (of_member rules m) classes }

-- the table of a maildrop, by the clerks and their groups
unfoldable pub table_among : List Rule → (classes : List Label) → List Member → (maildrop : Label) → List ℕ
table_among rules classes members maildrop =
    table_head classes maildrop ++ lines_text [] (map (row_among (of_maildrop rules maildrop) classes) members) ++ codes "\n"
