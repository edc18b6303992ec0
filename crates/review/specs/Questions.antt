-- The questions that a review asks a policy, about names and about all that are named nowhere.
use Rattle.std.specs.Prelude.{◌≡◌, ℕ, Bool, true, false, ◌&&◌, ◌||◌, List, [], ◌∷◌, find}
use Rattle.std.specs.List.{flat_map, list_any}
use Rattle.std.specs.Str.{bytes_eq}
use Rattle.policy.specs.declared.decide.Decision.{Decision}
use Rattle.policy.specs.declared.rule.Action.TheVariants.{Open, Read, Remove}
use Rattle.policy.specs.declared.rule.Clerks.{Clerks}
use Rattle.policy.specs.declared.rule.Clerks.TheVariants as clerks
use Rattle.policy.specs.declared.rule.Pattern.{Pattern}
use Rattle.policy.specs.declared.rule.Pattern.TheVariants.{Any, Is}
use Rattle.policy.specs.declared.rule.Rule.{Rule}
use Rattle.policy.specs.Policy.{Group, Policy, decide, decision_of, fits, fits_clerk, has_member}
use Rattle.review.specs.declared.label.Label.{Label}
use Rattle.review.specs.declared.label.Label.TheVariants.{Named, Others}
use Rattle.review.specs.declared.question.Column.{Column}
use Rattle.review.specs.declared.question.Column.TheVariants as column

-- the pattern fits the name; `*` alone fits the others
abbrev pub fits_label : Pattern → Label → Bool
fits_label pattern (Named name) = fits pattern name
fits_label Any Others = true
fits_label (Is wanted) Others = false

-- the rule's clerks have the clerk among them; `*` alone has the others
abbrev pub has_clerk : List Group → Clerks → Label → Bool
has_clerk groups wanted (Named name) = fits_clerk groups wanted name
has_clerk groups clerks.Any Others = true
has_clerk groups (clerks.Is wanted) Others = false
has_clerk groups (clerks.MembersOf wanted) Others = false

-- the rule lists the column's action and is about its class; to open is about none
abbrev pub is_about : Column → Rule → Bool
is_about column.Open r = r.actions.open
is_about (column.Read class) r = r.actions.read && fits_label r.class class
is_about (column.Remove class) r = r.actions.remove && fits_label r.class class

-- the rule matches the question
abbrev pub is_asked : List Group → (clerk maildrop : Label) → Column → Rule → Bool
is_asked groups clerk maildrop asked r = has_clerk groups r.clerk clerk && (fits_label r.maildrop maildrop && is_about asked r)

-- the first rule that matches the question decides
abbrev pub decide_for : Policy → (clerk maildrop : Label) → Column → Decision
decide_for p clerk maildrop asked = decision_of (find (is_asked p.groups clerk maildrop asked) p.rules)

-- the columns of a table: to open, then for each class to read and to remove
abbrev pub columns : List Label → List Column
columns classes = column.Open ∷ flat_map (λ class. column.Read class ∷ column.Remove class ∷ []) classes

-- ---- names

-- the pattern is that name
abbrev pub pattern_names : Pattern → (name : List ℕ) → Bool
pattern_names Any name = false
pattern_names (Is wanted) name = bytes_eq wanted name

-- the clerks are the one of that name
abbrev pub clerks_name : Clerks → (name : List ℕ) → Bool
clerks_name clerks.Any name = false
clerks_name (clerks.Is wanted) name = bytes_eq wanted name
clerks_name (clerks.MembersOf wanted) name = false

-- a rule names the clerk, or a group has the clerk as a member
abbrev pub names_clerk : Policy → (clerk : List ℕ) → Bool
names_clerk p clerk = list_any (λ r. clerks_name r.clerk clerk) p.rules || list_any (λ g. has_member g clerk) p.groups

-- a rule names the maildrop
abbrev pub names_maildrop : Policy → (maildrop : List ℕ) → Bool
names_maildrop p maildrop = list_any (λ r. pattern_names r.maildrop maildrop) p.rules

-- a rule names the class
abbrev pub names_class : Policy → (class : List ℕ) → Bool
names_class p class = list_any (λ r. pattern_names r.class class) p.rules

-- ---- laws

-- about names, the answers are the policy's decisions
pub record AsksThePolicy : Type 0 where
  pub opening : (p : Policy) (clerk maildrop class : List ℕ) → decide_for p (Named clerk) (Named maildrop) column.Open ≡ decide p clerk maildrop class Open
  pub reading : (p : Policy) (clerk maildrop class : List ℕ) → decide_for p (Named clerk) (Named maildrop) (column.Read (Named class)) ≡ decide p clerk maildrop class Read
  pub removing : (p : Policy) (clerk maildrop class : List ℕ) → decide_for p (Named clerk) (Named maildrop) (column.Remove (Named class)) ≡ decide p clerk maildrop class Remove

-- a name that the policy doesn't name is decided as the others are
pub record OthersAreAlike : Type 0 where
  pub clerk : (p : Policy) (name : List ℕ) (maildrop : Label) (asked : Column) → names_clerk p name ≡ false
      → decide_for p (Named name) maildrop asked ≡ decide_for p Others maildrop asked
  pub maildrop : (p : Policy) (clerk : Label) (name : List ℕ) (asked : Column) → names_maildrop p name ≡ false
      → decide_for p clerk (Named name) asked ≡ decide_for p clerk Others asked
  pub reading : (p : Policy) (clerk maildrop : Label) (name : List ℕ) → names_class p name ≡ false
      → decide_for p clerk maildrop (column.Read (Named name)) ≡ decide_for p clerk maildrop (column.Read Others)
  pub removing : (p : Policy) (clerk maildrop : Label) (name : List ℕ) → names_class p name ≡ false
      → decide_for p clerk maildrop (column.Remove (Named name)) ≡ decide_for p clerk maildrop (column.Remove Others)
