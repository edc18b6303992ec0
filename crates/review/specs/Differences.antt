-- What a change of the policy changes: the questions whose decisions differ, and the text that tells them.
use Rattle.std.specs.Prelude.{ℕ, Bool, true, false, ◌&&◌, not, List, [], ◌++◌, codes, map}
use Rattle.std.specs.List.{filter, flat_map}
use Rattle.policy.specs.declared.decide.Decision.{Decision}
use Rattle.policy.specs.Policy.{Policy}
use Rattle.review.specs.declared.label.Label.{Label}
use Rattle.review.specs.declared.label.Label.TheVariants.{Named, Others}
use Rattle.review.specs.declared.question.Column.{Column}
use Rattle.review.specs.declared.question.Column.TheVariants as column
use Rattle.review.specs.declared.question.Question.{Question}
use Rattle.review.specs.Questions.{decide_for}

-- each clerk with each maildrop and each column, by clerks, then maildrops, then columns
abbrev pub questions : (clerks maildrops : List Label) → List Column → List Question
questions clerks maildrops asked =
    flat_map (λ clerk. flat_map (λ maildrop. map (λ a. record { clerk = clerk; maildrop = maildrop; asked = a }) asked) maildrops) clerks

-- what a policy answers
abbrev pub answer : Policy → Question → Decision
answer p q = decide_for p q.clerk q.maildrop q.asked

-- what was denied is allowed, or what was allowed is denied
abbrev pub becomes : (allowed : Bool) → (was is : Decision) → Bool
becomes true was is = not was.allowed && is.allowed
becomes false was is = was.allowed && not is.allowed

-- the questions whose answers become so
abbrev pub becoming : (allowed : Bool) → (old new : Policy) → List Question → List Question
becoming allowed old new qs = filter (λ q. becomes allowed (answer old q) (answer new q)) qs

-- the questions whose answers differ in being allowed, those that become allowed first
abbrev pub differences : (old new : Policy) → List Question → List Question
differences old new qs = becoming true old new qs ++ becoming false old new qs

-- ---- the text

-- the text, if the test holds
abbrev pub text_if : Bool → List ℕ → List ℕ
text_if true text = text
text_if false text = []

-- a name, or the word for all that are named nowhere
abbrev pub label_text : Label → List ℕ
label_text (Named name) = name
label_text Others = codes "(others)"

-- `open`, or a class and what is done to its messages
unfoldable pub column_text : Column → List ℕ
column_text column.Open = codes "open"
column_text (column.Read class) = label_text class ++ codes " read"
column_text (column.Remove class) = label_text class ++ codes " remove"

-- `allow` or `deny`
abbrev pub effect_word : (allowed : Bool) → List ℕ
effect_word true = codes "allow"
effect_word false = codes "deny"

-- whether it is allowed, and by which rule
unfoldable pub decision_text : Decision → List ℕ
decision_text d = effect_word d.allowed ++ codes " by rule " ++ d.rule

-- the clerk, the maildrop and what is done there
unfoldable pub question_text : Question → List ℕ
question_text q = label_text q.clerk ++ codes " " ++ label_text q.maildrop ++ codes " " ++ column_text q.asked

-- the line of a question and two answers
unfoldable pub change_line : Question → (was is : Decision) → List ℕ
change_line q was is = question_text q ++ codes ": " ++ decision_text was ++ codes " -> " ++ decision_text is ++ codes "\n"

-- a line for each of the questions
abbrev pub change_lines : (old new : Policy) → List Question → List ℕ
change_lines old new qs = flat_map (λ q. change_line q (answer old q) (answer new q)) qs

-- a line for each difference
abbrev pub differences_text : (old new : Policy) → List Question → List ℕ
differences_text old new qs = change_lines old new (differences old new qs)
