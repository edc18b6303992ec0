-- A clerk whose groups were asked once is about whom the rules are that are about the clerk.
use Rattle.std.proofs.Common.{◌≡◌, ℕ, Bool, true, false, ◌&&◌, ◌||◌, List, [], ◌∷◌, ◌++◌, refl}
use Rattle.std.specs.List.{filter}
use Rattle.std.specs.Str.{bytes_eq}
use Rattle.policy.specs.declared.rule.Clerks.{Clerks}
use Rattle.policy.specs.declared.rule.Clerks.TheVariants as clerks
use Rattle.policy.specs.declared.rule.Rule.{Rule}
use Rattle.policy.specs.Policy.{Group, has_member, is_member}
use Rattle.review.specs.declared.label.Label.{Label}
use Rattle.review.specs.declared.label.Label.TheVariants.{Named, Others}
use Rattle.review.specs.Questions.{has_clerk}
use Rattle.review.specs.Steps.{fits_member, is_among, member_of, name_if, names_of_groups, of_clerk, of_member}

-- a name is one of those groups' names if a group of that name has the clerk
in_groups : (wanted clerk : List ℕ) (groups : List Group) → is_among wanted (names_of_groups groups clerk) ≡ is_member groups wanted clerk
in_groups wanted clerk [] = refl
in_groups wanted clerk (g ∷ groups) = at (has_member g clerk) (in_groups wanted clerk groups)
  where
    at : (has : Bool) → is_among wanted (names_of_groups groups clerk) ≡ is_member groups wanted clerk
        → is_among wanted (name_if has g.name ++ names_of_groups groups clerk) ≡ ((bytes_eq wanted g.name && has) || is_member groups wanted clerk)
    at true e = both (bytes_eq wanted g.name) e
      where
        both : (b : Bool) → is_among wanted (names_of_groups groups clerk) ≡ is_member groups wanted clerk
            → (b || is_among wanted (names_of_groups groups clerk)) ≡ ((b && true) || is_member groups wanted clerk)
        both true e = refl
        both false e = e
    at false e = neither (bytes_eq wanted g.name) e
      where
        neither : (b : Bool) → is_among wanted (names_of_groups groups clerk) ≡ is_member groups wanted clerk
            → is_among wanted (names_of_groups groups clerk) ≡ ((b && false) || is_member groups wanted clerk)
        neither true e = e
        neither false e = e

member : (groups : List Group) (wanted : Clerks) (clerk : Label) → fits_member wanted (member_of groups clerk) ≡ has_clerk groups wanted clerk
member groups clerks.Any (Named name) = refl
member groups clerks.Any Others = refl
member groups (clerks.Is wanted) (Named name) = refl
member groups (clerks.Is wanted) Others = refl
member groups (clerks.MembersOf wanted) (Named name) = in_groups wanted name groups
member groups (clerks.MembersOf wanted) Others = refl

filter_same : (p q : Rule → Bool) → ((r : Rule) → p r ≡ q r) → (rs : List Rule) → filter p rs ≡ filter q rs
filter_same p q e [] = refl
filter_same p q e (r ∷ rs) = rw (e r, filter_same p q e rs) refl

pub rules_of_member : (groups : List Group) (rules : List Rule) (clerk : Label) → of_member rules (member_of groups clerk) ≡ of_clerk groups rules clerk
rules_of_member groups rules clerk =
    filter_same (λ r. fits_member r.clerk (member_of groups clerk)) (λ r. has_clerk groups r.clerk clerk) (λ (r : Rule). member groups r.clerk clerk) rules
