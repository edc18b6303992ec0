-- A review as one page of HTML: who may do what as a table, what changes, what to look at, the
-- rules, and the policy's text. It has no script, and asks nothing of anybody.
use Rattle.std.specs.Prelude.{ℕ, ◌+◌, Bool, true, false, ◌||◌, List, [], ◌∷◌, ◌++◌, codes}
use Rattle.std.specs.Fmt.{decimal}
use Rattle.std.specs.List.{flat_map}
use Rattle.policy.specs.Policy.{Policy, allows}
use Rattle.policy.specs.WrittenText.{clerks_text, pattern_text}
use Rattle.policy.specs.declared.decide.Decision.{Decision}
use Rattle.policy.specs.declared.rule.Actions.{Actions}
use Rattle.policy.specs.declared.rule.Rule.{Rule}
use Rattle.review.specs.declared.cells.Verdict.{Verdict}
use Rattle.review.specs.declared.label.Label.{Label}
use Rattle.review.specs.declared.question.Column.{Column}
use Rattle.review.specs.declared.question.Question.{Question}
use Rattle.review.specs.Cells.{cell_words, has_become, level_text, tagged, verdicts_of}
use Rattle.review.specs.Differences.{becomes, becoming, change_lines, column_text}
use Rattle.review.specs.Differences.{decision_text, effect_word, questions, text_if}
use Rattle.review.specs.Escape.{escaped}
use Rattle.review.specs.Places.{text_by_rule}
use Rattle.review.specs.Questions.{columns}
use Rattle.review.specs.Style.{page_head}

-- ---- who may do what

-- marks of what was given and of what was taken, which are seen without colours too
abbrev pub marks : (given taken : Bool) → List ℕ
marks given taken =
    text_if given (codes " <b class=\"up\">&#9650; given</b>")
    ++ text_if taken (codes " <b class=\"down\">&#9660; taken</b>")

-- a decision, with a link to its rule
unfoldable pub decision_link : Decision → List ℕ
decision_link d =
    effect_word d.allowed ++ codes " by <a href=\"#rule-" ++ d.rule ++ codes "\">" ++ d.rule
    ++ codes "</a>"

-- what was decided before, if that is another answer
abbrev pub before_text : (given taken : Bool) → (was : Decision) → List ℕ
before_text given taken was = text_if (given || taken) (codes ", before: " ++ decision_text was)

-- the row of a column, by whether it was given or taken
unfoldable pub column_row : (given taken : Bool) → Verdict → List ℕ
column_row given taken v =
    codes "<tr><th scope=\"row\">" ++ column_text v.asked ++ codes "</th><td>"
    ++ decision_link v.is ++ marks given taken ++ before_text given taken v.was
    ++ codes "</td></tr>\n"

-- the row of a column
abbrev pub verdict_row : Verdict → List ℕ
verdict_row v = column_row (becomes true v.was v.is) (becomes false v.was v.is) v

-- what a clerk may do in a maildrop: in words, and if it is opened each decision
unfoldable pub cell_text : List Verdict → List ℕ
cell_text vs =
    codes "<td class=\"" ++ level_text vs ++ codes "\"><details><summary>" ++ cell_words vs
    ++ marks (has_become true vs) (has_become false vs) ++ codes "</summary><table>\n"
    ++ flat_map verdict_row vs ++ codes "</table></details></td>\n"

-- a clerk's row, by its cells
unfoldable pub clerk_row : (clerk : Label) → (cells : List ℕ) → List ℕ
clerk_row clerk cells =
    tagged (codes "<tr><th scope=\"row\">") clerk (codes "</th>") ++ cells ++ codes "</tr>\n"

-- a clerk's cells, a maildrop each
abbrev pub cells_of : (old new : Policy) → List Column → (maildrops : List Label) → Label → List ℕ
cells_of old new asked maildrops clerk =
    flat_map (λ maildrop. cell_text (verdicts_of old new asked clerk maildrop)) maildrops

-- a row for each clerk
abbrev pub rows_of : (old new : Policy) → List Column → (maildrops clerks : List Label) → List ℕ
rows_of old new asked maildrops clerks =
    flat_map (λ clerk. clerk_row clerk (cells_of old new asked maildrops clerk)) clerks

-- the head of a maildrop's column
unfoldable pub maildrop_head : Label → List ℕ
maildrop_head maildrop = tagged (codes "<th scope=\"col\">") maildrop (codes "</th>\n")

-- the heads of all columns
unfoldable pub who_head : (maildrops : List Label) → List ℕ
who_head maildrops =
    codes "<h2>Who may do what</h2>\n<p>Each cell says what the clerk may do with the messages "
    ++ codes "of the maildrop, by their class. An opened cell has each decision and its rule. "
    ++ codes "(others) stands for each name that isn't here.</p>\n"
    ++ codes "<div class=\"scroll\" tabindex=\"0\"><table class=\"who\">\n"
    ++ codes "<caption>Clerks down, maildrops across</caption>\n"
    ++ codes "<thead><tr><th scope=\"col\">clerk</th>\n"
    ++ flat_map maildrop_head maildrops ++ codes "</tr></thead>\n<tbody>\n"

-- the table, by its rows
unfoldable pub who_table : (maildrops : List Label) → (rows : List ℕ) → List ℕ
who_table maildrops rows = who_head maildrops ++ rows ++ codes "</tbody></table></div>\n"

-- ---- what changes, and what to look at

-- the text, or that there is none
abbrev pub or_nothing : List ℕ → List ℕ
or_nothing [] = codes "nothing\n"
or_nothing (b ∷ bs) = b ∷ bs

-- lines as they are printed for a reader
abbrev pub lines_shown : List ℕ → List ℕ
lines_shown lines = escaped (or_nothing lines)

-- what is given and what is taken, by the lines of both
unfoldable pub changes_section : (given taken : List ℕ) → List ℕ
changes_section given taken =
    codes "<h2>What changes</h2>\n<h3>&#9650; Given</h3>\n<pre class=\"up\">" ++ lines_shown given
    ++ codes "</pre>\n<h3>&#9660; Taken</h3>\n<pre class=\"down\">" ++ lines_shown taken
    ++ codes "</pre>\n"

-- what the new policy changes
abbrev pub changes_of_questions : (old new : Policy) → List Question → List ℕ
changes_of_questions old new qs =
    changes_section (change_lines old new (becoming true old new qs))
    (change_lines old new (becoming false old new qs))

-- rules that never decide, and notes
unfoldable pub notes_section : (notes : List ℕ) → List ℕ
notes_section notes =
    codes "<h2>What to look at</h2>\n<pre>" ++ lines_shown notes ++ codes "</pre>\n"

-- ---- the rules, and the policy's text

-- the actions that a rule lists, each with a space in front
abbrev pub actions_text : Actions → List ℕ
actions_text a =
    text_if a.open (codes " open") ++ text_if a.read (codes " read")
    ++ text_if a.remove (codes " remove")

-- what a rule is about, as cells
unfoldable pub about_cells : Rule → List ℕ
about_cells r =
    codes "</th><td>" ++ effect_word (allows r.effect) ++ codes "</td><td>" ++ clerks_text r.clerk
    ++ codes "</td><td>" ++ pattern_text r.maildrop ++ codes "</td><td>" ++ pattern_text r.class
    ++ codes "</td><td>" ++ actions_text r.actions ++ codes "</td></tr>\n"

-- a rule's number, counted from 1, and its name
unfoldable pub rule_head : (n : ℕ) → Rule → List ℕ
rule_head n r =
    codes "<tr id=\"rule-" ++ r.name ++ codes "\"><td>" ++ decimal (n + 1)
    ++ codes "</td><th scope=\"row\">" ++ r.name

-- the row of a rule and its place
abbrev pub rule_row : (n : ℕ) → Rule → List ℕ
rule_row n r = rule_head n r ++ about_cells r

-- what stands above the rules
unfoldable pub rules_head : List ℕ
rules_head =
    codes "<h2>The rules</h2>\n<div class=\"scroll\" tabindex=\"0\"><table>\n"
    ++ codes "<caption>The first rule that matches decides</caption>\n"
    ++ codes "<thead><tr><th scope=\"col\">number</th>"
    ++ codes "<th scope=\"col\">rule</th><th scope=\"col\">effect</th>"
    ++ codes "<th scope=\"col\">clerk</th><th scope=\"col\">maildrop</th>"
    ++ codes "<th scope=\"col\">class</th><th scope=\"col\">actions</th></tr></thead>\n<tbody>\n"

-- what stands below them: the row to which a decision of no rule is linked
unfoldable pub rules_end : List ℕ
rules_end =
    codes "<tr id=\"rule-default\"><td></td><th scope=\"row\">default</th><td>deny</td>"
    ++ codes "<td colspan=\"4\">if no rule matches</td></tr>\n</tbody></table></div>\n"

-- the rules, a row each
abbrev pub rules_section : List Rule → List ℕ
rules_section rules = rules_head ++ text_by_rule rule_row rules ++ rules_end

-- the text that the policy was read from
unfoldable pub source_section : (source : List ℕ) → List ℕ
source_section source =
    codes "<h2>The policy's text</h2>\n<pre>\n" ++ escaped source
    ++ codes "</pre>\n</main>\n</body>\n</html>\n"

-- ---- the page

-- what a page says of two policies: who may do what by the new one, and what it changes
abbrev pub compared_text : (table compared : Bool) → (old new : Policy)
    → (clerks maildrops : List Label) → List Column → List ℕ
compared_text table compared old new clerks maildrops asked =
    text_if table (who_table maildrops (rows_of old new asked maildrops clerks))
    ++ text_if compared (changes_of_questions old new (questions clerks maildrops asked))

-- the whole page
abbrev pub page_text : (table compared : Bool) → (old new : Policy)
    → (clerks maildrops classes : List Label) → (notes source : List ℕ) → List ℕ
page_text table compared old new clerks maildrops classes notes source =
    page_head ++ compared_text table compared old new clerks maildrops (columns classes)
    ++ notes_section notes ++ rules_section new.rules ++ source_section source
