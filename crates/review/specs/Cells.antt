-- What a clerk may do in a maildrop: the decisions about its columns, and the words for them.
use Rattle.std.specs.Prelude.{ℕ, Bool, true, false, not, List, [], ◌∷◌, ◌++◌, map, codes}
use Rattle.std.specs.Prelude.{Option, Some, None}
use Rattle.std.specs.List.{flat_map, list_any}
use Rattle.policy.specs.Policy.{Policy}
use Rattle.review.specs.declared.cells.Verdict.{Verdict}
use Rattle.review.specs.declared.label.Label.{Label}
use Rattle.review.specs.declared.label.Label.TheVariants.{Named, Others}
use Rattle.review.specs.declared.question.Column.{Column}
use Rattle.review.specs.declared.question.Column.TheVariants as column
use Rattle.review.specs.Differences.{becomes, label_text}
use Rattle.review.specs.Questions.{decide_for}

-- what was decided of each of the columns, and what is
abbrev pub verdicts_of : (old new : Policy) → List Column → (clerk maildrop : Label) → List Verdict
verdicts_of old new asked clerk maildrop =
    map (λ a. record {
      asked = a;
      was = decide_for old clerk maildrop a;
      is = decide_for new clerk maildrop a;
    }) asked

-- ---- classes

-- the class that is read, or that is removed
abbrev pub class_of : (remove : Bool) → Column → Option Label
class_of remove column.Open = None
class_of false (column.Read class) = Some class
class_of true (column.Read class) = None
class_of false (column.Remove class) = None
class_of true (column.Remove class) = Some class

-- it is allowed, if that is asked for, else denied
abbrev pub agrees : (wanted is : Bool) → Bool
agrees true is = is
agrees false is = not is

-- the class, if the test holds
abbrev pub class_if : Bool → Option Label → List Label
class_if holds None = []
class_if false (Some class) = []
class_if true (Some class) = class ∷ []

-- the classes that may be read, or not; or removed, or not
abbrev pub classes_by : (remove allowed : Bool) → List Verdict → List Label
classes_by remove allowed vs =
    flat_map (λ v. class_if (agrees allowed v.is.allowed) (class_of remove v.asked)) vs

-- ---- words

-- a list's text without the separator at its beginning, which is one octet
abbrev pub rest_of : List ℕ → List ℕ
rest_of [] = []
rest_of (b ∷ bs) = bs

-- a label between two texts
abbrev pub tagged : (front : List ℕ) → Label → (back : List ℕ) → List ℕ
tagged front label back = front ++ label_text label ++ back

-- a class with a separator
unfoldable pub comma_label : Label → List ℕ
comma_label class = codes ", " ++ label_text class

-- the classes, each with a space in front, a comma between each two
abbrev pub classes_text : List Label → List ℕ
classes_text classes = rest_of (flat_map comma_label classes)

-- there is none
abbrev pub is_none : List Label → Bool
is_none [] = true
is_none (class ∷ classes) = false

-- the class is that of all others
abbrev pub is_others : Label → Bool
is_others (Named name) = false
is_others Others = true

-- ` all`, ` nothing`, or what is fewer to say: all but some, or some
abbrev pub share_of : (all none others : Bool) → (given refused : List Label) → List ℕ
share_of true none others given refused = codes " all"
share_of false true others given refused = codes " nothing"
share_of false false true given refused = codes " all but" ++ classes_text refused
share_of false false false given refused = classes_text given

-- which of all classes are allowed, by those that are and those that aren't
abbrev pub share_text : (given refused : List Label) → List ℕ
share_text given refused =
    share_of (is_none refused) (is_none given) (list_any is_others given) given refused

-- of what is read, or of what is removed
abbrev pub share_by : (remove : Bool) → List Verdict → List ℕ
share_by remove vs = share_text (classes_by remove true vs) (classes_by remove false vs)

-- the column is to open, and it is allowed
abbrev pub lets_open : Column → (allowed : Bool) → Bool
lets_open column.Open allowed = allowed
lets_open (column.Read class) allowed = false
lets_open (column.Remove class) allowed = false

-- the maildrop may be opened
abbrev pub opens : List Verdict → Bool
opens vs = list_any (λ v. lets_open v.asked v.is.allowed) vs

-- anything is allowed
abbrev pub lets_any : List Verdict → Bool
lets_any vs = list_any (λ v. v.is.allowed) vs

-- a decision became so
abbrev pub has_become : (allowed : Bool) → List Verdict → Bool
has_become allowed vs = list_any (λ v. becomes allowed v.was v.is) vs

-- of a maildrop that may be opened: what is read and what is removed there
unfoldable pub open_words : List Verdict → List ℕ
open_words vs = codes "reads" ++ share_by false vs ++ codes "; removes" ++ share_by true vs

-- what may be done, in words
abbrev pub words_of : (opens any : Bool) → List Verdict → List ℕ
words_of true any vs = open_words vs
words_of false true vs = codes "may not open"
words_of false false vs = codes "no"

-- the words of a cell
abbrev pub cell_words : List Verdict → List ℕ
cell_words vs = words_of (opens vs) (lets_any vs) vs

-- what may be done, as a word for its colour
abbrev pub level_of : (opens any none_read none_removed : Bool) → List ℕ
level_of false false read removed = codes "no"
level_of false true read removed = codes "slip"
level_of true any true removed = codes "opens"
level_of true any false true = codes "reads"
level_of true any false false = codes "removes"

-- the word of a cell
abbrev pub level_text : List Verdict → List ℕ
level_text vs =
    level_of (opens vs) (lets_any vs)
    (is_none (classes_by false true vs)) (is_none (classes_by true true vs))
