-- What setting a policy does to the rows of groups and rules.
use Rattle.std.specs.Prelude.{◌≡◌, ◌+◌, ℕ, ℤ, pos, List, [], ◌∷◌, ◌++◌, map}
use Rattle.policy.specs.declared.rule.Rule as policy
use Rattle.policy.specs.Policy.{Group, Policy}
use Rattle.mailsql.specs.declared.rows.Group as row
use Rattle.mailsql.specs.declared.rows.Member.{Member}
use Rattle.mailsql.specs.Changes.{next_group}
use Rattle.mailsql.specs.Columns.{Name, Rows}
use Rattle.sqlvault.specs.Keeps.{at_place, rule_row}

-- ---- groups

-- the rows of a group's members, at places from this one on
abbrev pub member_rows : (group : ℤ) → (place : ℕ) → List Name → List Member
member_rows group place [] = []
member_rows group place (name ∷ names) = record { group = group; place = pos place; clerk = name } ∷ member_rows group (place + 1) names

-- the row of a group
abbrev pub group_row : (place : ℤ) → Group → row.Group
group_row place g = record { place = place; name = g.name }

-- the rows of groups, at places from this one on
abbrev pub group_rows : (place : ℕ) → List Group → List row.Group
group_rows place [] = []
group_rows place (g ∷ gs) = group_row (pos place) g ∷ group_rows (place + 1) gs

-- the rows of their members, at places from 1 on in each group
abbrev pub all_member_rows : (place : ℕ) → List Group → List Member
all_member_rows place [] = []
all_member_rows place (g ∷ gs) = member_rows (pos place) 1 g.members ++ all_member_rows (place + 1) gs

-- these members are added, the first of their group
abbrev pub AddsMembers : (group : ℤ) → List Name → Rows → Rows → Type 0
AddsMembers group names old new = new ≡ record old { members = old.members ++ member_rows group 1 names }

-- if this is the next place, the group and its members are added after the others
abbrev pub AddsGroup : (place : ℤ) → Group → Rows → Rows → Type 0
AddsGroup place g old new = next_group old.groups ≡ place → new ≡ record old { groups = old.groups ++ group_row place g ∷ []; members = old.members ++ member_rows place 1 g.members }

-- if there is no group, these and their members are added
abbrev pub AddsGroups : List Group → Rows → Rows → Type 0
AddsGroups gs old new = old.groups ≡ [] → new ≡ record old { groups = group_rows 1 gs; members = old.members ++ all_member_rows 1 gs }

-- the groups are these, and nothing else changes
abbrev pub SetsGroups : List Group → Rows → Rows → Type 0
SetsGroups gs old new = new ≡ record old { groups = group_rows 1 gs; members = all_member_rows 1 gs }

-- ---- rules

-- these rules are added after the others, at any places, and nothing else changes
pub record AddsRules (rules : List policy.Rule) (old new : Rows) : Type 0 where
  pub added : map (at_place (pos 0)) new.rules ≡ map (at_place (pos 0)) old.rules ++ map (rule_row (pos 0)) rules
  pub others : new ≡ record old { rules = new.rules }

-- the rules are these, at any places, and nothing else changes
pub record SetsRules (rules : List policy.Rule) (old new : Rows) : Type 0 where
  pub set : map (at_place (pos 0)) new.rules ≡ map (rule_row (pos 0)) rules
  pub others : new ≡ record old { rules = new.rules }

-- ---- both

-- the groups are set, and then the rules
abbrev pub SetsPolicy : Policy → Rows → Rows → Type 0
SetsPolicy policy old new = (mid : Rows) × SetsGroups policy.groups old mid × SetsRules policy.rules mid new
