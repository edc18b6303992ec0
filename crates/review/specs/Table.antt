-- Who may do what: a table for each maildrop, its clerks down, its classes and the actions across; and a line for each question, also as CSV (RFC 4180).
use Rattle.std.specs.Prelude.{ℕ, zero, suc, ◌+◌, ◌-◌, Bool, true, false, not, List, [], ◌∷◌, ◌++◌, length, codes, map, max}
use Rattle.std.specs.List.{flat_map, list_any}
use Rattle.std.specs.Str.{bytes_eq}
use Rattle.policy.specs.declared.decide.Decision.{Decision}
use Rattle.policy.specs.Policy.{Policy}
use Rattle.review.specs.declared.label.Label.{Label}
use Rattle.review.specs.declared.question.Column.{Column}
use Rattle.review.specs.declared.question.Column.TheVariants as column
use Rattle.review.specs.declared.question.Question.{Question}
use Rattle.review.specs.declared.rows.LineForm.{LineForm}
use Rattle.review.specs.declared.rows.LineForm.TheVariants.{Text, Csv}
use Rattle.review.specs.Differences.{answer, decision_text, effect_word, label_text, question_text, text_if}
use Rattle.review.specs.Questions.{decide_for}

-- so many spaces
abbrev pub spaces : ℕ → List ℕ
spaces zero = []
spaces (suc n) = spaces n ++ 32 ∷ []

-- the text with spaces after it, as wide as that
abbrev pub padded : (width : ℕ) → List ℕ → List ℕ
padded width text = text ++ spaces (width - length text)

-- allowed, or denied
abbrev pub mark : Bool → List ℕ
mark true = codes "x"
mark false = codes "."

-- how wide a class is: its name, or `read remove`, and two spaces
abbrev pub class_width : Label → ℕ
class_width class = max (length (label_text class)) 11 + 2

-- a class's two marks, under `read` and `remove`
unfoldable pub class_cell : (class : Label) → (read remove : Bool) → List ℕ
class_cell class read remove = padded (class_width class) (mark read ++ codes "    " ++ mark remove)

-- a clerk's marks in a maildrop
abbrev pub row_text : Policy → (classes : List Label) → (clerk maildrop : Label) → List ℕ
row_text p classes clerk maildrop =
    mark ((decide_for p clerk maildrop column.Open).allowed) ++ codes "     "
    ++ flat_map (λ class. class_cell class ((decide_for p clerk maildrop (column.Read class)).allowed) ((decide_for p clerk maildrop (column.Remove class)).allowed)) classes

-- a class's name, as wide as its marks
unfoldable pub class_name : Label → List ℕ
class_name class = padded (class_width class) (label_text class)

-- the words below it
unfoldable pub class_words : Label → List ℕ
class_words class = padded (class_width class) (codes "read remove")

-- the lines above the marks
unfoldable pub table_head : (classes : List Label) → (maildrop : Label) → List ℕ
table_head classes maildrop =
    codes "maildrop " ++ label_text maildrop ++ codes "\nopen  " ++ flat_map class_name classes
    ++ codes "\n      " ++ flat_map class_words classes ++ codes "clerks\n"

-- a clerk and the clerk's marks
pub record Row : Type 0 where
  pub clerk : Label
  pub marks : List ℕ

-- two rows with the same marks
abbrev pub same_marks : (r s : Row) → Bool
same_marks r s = bytes_eq r.marks s.marks

-- one more clerk, if the marks are the same
abbrev pub also : (r s : Row) → List ℕ
also r s = text_if (same_marks r s) (codes ", " ++ label_text s.clerk)

-- the line of a row and the clerks of later rows that have the same marks
unfoldable pub line_text : Row → (later : List Row) → List ℕ
line_text r later = r.marks ++ label_text r.clerk ++ flat_map (also r) later ++ codes "\n"

-- a line for each row whose marks no row before it has
abbrev pub lines_text : (before rows : List Row) → List ℕ
lines_text before [] = []
lines_text before (r ∷ rows) = text_if (not (list_any (same_marks r) before)) (line_text r rows) ++ lines_text (before ++ r ∷ []) rows

-- a maildrop's table
abbrev pub table_text : Policy → (clerks classes : List Label) → (maildrop : Label) → List ℕ
table_text p clerks classes maildrop =
    table_head classes maildrop ++ lines_text [] (map (λ clerk. record { clerk = clerk; marks = row_text p classes clerk maildrop }) clerks) ++ codes "\n"

-- a table for each maildrop
abbrev pub tables_text : Policy → (clerks maildrops classes : List Label) → List ℕ
tables_text p clerks maildrops classes = flat_map (table_text p clerks classes) maildrops

-- ---- a line for each question

-- the class, which to open is none, and the action
unfoldable pub column_fields : Column → List ℕ
column_fields column.Open = codes ",open"
column_fields (column.Read class) = label_text class ++ codes ",read"
column_fields (column.Remove class) = label_text class ++ codes ",remove"

-- the fields of a question
unfoldable pub csv_question : Question → List ℕ
csv_question q = label_text q.clerk ++ codes "," ++ label_text q.maildrop ++ codes "," ++ column_fields q.asked

-- the fields of an answer
unfoldable pub csv_decision : Decision → List ℕ
csv_decision d = codes "," ++ effect_word d.allowed ++ codes "," ++ d.rule ++ codes "\n"

-- the line of a question as CSV; no field needs quotes
abbrev pub csv_line : Question → Decision → List ℕ
csv_line q d = csv_question q ++ csv_decision d

-- the line of a question for a reader
unfoldable pub plain_line : Question → Decision → List ℕ
plain_line q d = question_text q ++ codes ": " ++ decision_text d ++ codes "\n"

-- the line of a question
abbrev pub answer_line : LineForm → Question → Decision → List ℕ
answer_line Text q d = plain_line q d
answer_line Csv q d = csv_line q d

-- a line for each question
abbrev pub answers_text : LineForm → Policy → List Question → List ℕ
answers_text format p qs = flat_map (λ q. answer_line format q (answer p q)) qs

-- the names of the fields
abbrev pub csv_head : List ℕ
csv_head = codes "clerk,maildrop,class,action,decision,rule\n"
