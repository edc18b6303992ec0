-- The rules about one clerk and one maildrop.
use Rattle.std.specs.Prelude.{◌≡◌, ◌≤◌, ℕ, Bool, true, false, ◌&&◌, List, filter, map, take, length}
use Rattle.std.specs.List.{list_any}
use Rattle.std.specs.Str.{bytes_eq}
use Rattle.policy.specs.declared.group_starts.GroupStart.{GroupStart}
use Rattle.policy.specs.declared.group_starts.GroupStarts.{GroupStarts}
use Rattle.policy.specs.declared.index.Starts.{Starts}
use Rattle.policy.specs.declared.rule.Action.{Action}
use Rattle.policy.specs.declared.rule.Clerks.{Clerks}
use Rattle.policy.specs.declared.rule.Clerks.TheVariants as clerks
use Rattle.policy.specs.declared.rule.Pattern.{Pattern}
use Rattle.policy.specs.declared.rule.Pattern.TheVariants.{Any, Is}
use Rattle.policy.specs.declared.rule.Rule.{Rule}
use Rattle.policy.specs.Index.{has_key, place_from, same_clerks}
use Rattle.policy.specs.Policy.{Group, Policy, fits, fits_class, fits_clerk, has_member, lists}

-- a clerk and a maildrop, under a policy
pub record Lane : Type 0 where
  pub policy : Policy
  pub clerk : List ℕ
  pub maildrop : List ℕ

-- the rule is about the clerk and the maildrop
abbrev pub is_about : List Group → (clerk maildrop : List ℕ) → Rule → Bool
is_about groups clerk maildrop r = fits_clerk groups r.clerk clerk && fits r.maildrop maildrop

-- `*`, or the clerk's name
abbrev pub names_one : Clerks → (clerk : List ℕ) → Bool
names_one clerks.Any clerk = true
names_one (clerks.Is wanted) clerk = bytes_eq wanted clerk
names_one (clerks.MembersOf name) clerk = false

-- the rules about the lane's clerk and maildrop, in order
abbrev pub rules_about : Lane → List Rule
rules_about lane = filter (is_about lane.policy.groups lane.clerk lane.maildrop) lane.policy.rules

-- the rule is about the action, and about the class
abbrev pub is_about_action : Action → (class : List ℕ) → Rule → Bool
is_about_action action class r = lists r.actions action && fits_class action r.class class

-- the rule is about the clerk by name or by `*`, and about the maildrop
abbrev pub is_about_one : (clerk maildrop : List ℕ) → Rule → Bool
is_about_one clerk maildrop r = names_one r.clerk clerk && fits r.maildrop maildrop

-- the rule is about the group of that name, and about the maildrop
abbrev pub is_about_group : (name maildrop : List ℕ) → Rule → Bool
is_about_group name maildrop r = same_clerks r.clerk (clerks.MembersOf name) && fits r.maildrop maildrop

-- the rule is about a group that the clerk is a member of, and about the maildrop
abbrev pub is_about_groups : List Group → (clerk maildrop : List ℕ) → Rule → Bool
is_about_groups groups clerk maildrop r = list_any (λ g. has_member g clerk && is_about_group g.name maildrop r) groups

-- the place of the first rule that names just these clerks and this maildrop
abbrev pub start_of : List Rule → (clerk : Clerks) (maildrop : Pattern) → ℕ
start_of rules clerk maildrop = place_from (has_key (record { clerk = clerk; maildrop = maildrop })) 0 rules

-- where the rules about a clerk and a maildrop that name no group begin: the first that names both,
-- that names the clerk alone, the maildrop alone, and neither
pub record AreStarts (clerk maildrop : List ℕ) (rules : List Rule) (s : Starts) : Type 0 where
  pub both : s.both ≡ start_of rules (clerks.Is clerk) (Is maildrop)
  pub one_clerk : s.clerk ≡ start_of rules (clerks.Is clerk) Any
  pub one_maildrop : s.maildrop ≡ start_of rules clerks.Any (Is maildrop)
  pub all : s.all ≡ start_of rules clerks.Any Any

-- where the rules about a group and a maildrop begin: the first that names the maildrop, and the
-- first about `*`
abbrev pub group_start : List Rule → (maildrop group : List ℕ) → GroupStart
group_start rules maildrop group = record { maildrop = start_of rules (clerks.MembersOf group) (Is maildrop); all = start_of rules (clerks.MembersOf group) Any }

-- the starts of each group that the clerk is a member of, in the groups' order
abbrev pub group_starts : List Group → (clerk maildrop : List ℕ) → List Rule → List GroupStart
group_starts groups clerk maildrop rules = map (λ g. group_start rules maildrop g.name) (filter (λ g. has_member g clerk) groups)

-- the kept starts are those of the clerk's groups
pub record AreGroupStarts (groups : List Group) (clerk maildrop : List ℕ) (rules : List Rule) (s : GroupStarts) : Type 0 where
  pub fit : s.len ≤ length s.starts
  pub are : take s.len s.starts ≡ group_starts groups clerk maildrop rules
