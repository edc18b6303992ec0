-- The names that policies speak of, in the order of their octets, and the label of all others after them.
use Rattle.std.specs.Prelude.{◌≡◌, ℕ, Bool, false, ◌||◌, List, [], ◌∷◌, ◌++◌, map}
use Rattle.std.specs.BTreeSet.{insert_key}
use Rattle.std.specs.Cmp.Lexicographic.{slice_cmp}
use Rattle.std.specs.List.{flat_map, list_any}
use Rattle.std.specs.Ordering.{nat_cmp}
use Rattle.std.specs.Str.{bytes_eq}
use Rattle.policy.specs.declared.rule.Clerks.{Clerks}
use Rattle.policy.specs.declared.rule.Clerks.TheVariants as clerks
use Rattle.policy.specs.declared.rule.Pattern.{Pattern}
use Rattle.policy.specs.declared.rule.Pattern.TheVariants.{Any, Is}
use Rattle.policy.specs.Policy.{Policy}
use Rattle.review.specs.declared.label.Label.{Label}
use Rattle.review.specs.declared.label.Label.TheVariants.{Named, Others}
use Rattle.review.specs.Questions.{names_class, names_clerk, names_maildrop}

-- the clerk that is named, if one is
abbrev pub clerk_of : Clerks → List (List ℕ)
clerk_of clerks.Any = []
clerk_of (clerks.Is name) = name ∷ []
clerk_of (clerks.MembersOf name) = []

-- the name of a pattern, if it has one
abbrev pub name_in : Pattern → List (List ℕ)
name_in Any = []
name_in (Is name) = name ∷ []

-- the clerks that a policy's rules name, and the members of its groups
abbrev pub clerks_in : Policy → List (List ℕ)
clerks_in p = flat_map (λ r. clerk_of r.clerk) p.rules ++ flat_map (λ g. g.members) p.groups

-- the maildrops that a policy's rules name
abbrev pub maildrops_in : Policy → List (List ℕ)
maildrops_in p = flat_map (λ r. name_in r.maildrop) p.rules

-- the classes that a policy's rules name
abbrev pub classes_in : Policy → List (List ℕ)
classes_in p = flat_map (λ r. name_in r.class) p.rules

-- the names with these among them, each once, in the order of their octets
abbrev pub put_names : (names more : List (List ℕ)) → List (List ℕ)
put_names names [] = names
put_names names (name ∷ more) = put_names (insert_key (slice_cmp nat_cmp) names name) more

-- the labels of these names, in the order of their octets, and that of all others
abbrev pub labels : List (List ℕ) → List Label
labels names = map Named (put_names [] names) ++ Others ∷ []

-- the clerks and the maildrops that a store has
pub record Kept : Type 0 where
  pub clerks : List (List ℕ)
  pub maildrops : List (List ℕ)

-- those of no store
abbrev pub nobody : Kept
nobody = record { clerks = []; maildrops = [] }

-- the name is one of these
abbrev pub is_one_of : (name : List ℕ) → List (List ℕ) → Bool
is_one_of name names = list_any (λ x. bytes_eq x name) names

-- ---- a law

-- the label is that name's
abbrev pub is_of : (name : List ℕ) → Label → Bool
is_of name (Named other) = bytes_eq other name
is_of name Others = false

-- the names that have labels are those that a policy names or the store has: what the others stand
-- for, neither policy names, and the store doesn't have
pub record NamesAreTold : Type 0 where
  pub clerks : (old new : Policy) (kept : Kept) (name : List ℕ)
      → list_any (is_of name) (labels (clerks_in old ++ clerks_in new ++ kept.clerks))
      ≡ (names_clerk old name || names_clerk new name || is_one_of name kept.clerks)
  pub maildrops : (old new : Policy) (kept : Kept) (name : List ℕ)
      → list_any (is_of name) (labels (maildrops_in old ++ maildrops_in new ++ kept.maildrops))
      ≡ (names_maildrop old name || names_maildrop new name || is_one_of name kept.maildrops)
  pub classes : (old new : Policy) (name : List ℕ)
      → list_any (is_of name) (labels (classes_in old ++ classes_in new))
      ≡ (names_class old name || names_class new name)
