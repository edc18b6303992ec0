-- A policy: its groups and its rules, which of them decides, and when a policy is sound.
use Rattle.std.specs.Prelude.{ℕ, Bool, true, false, ◌&&◌, ◌||◌, not, nat_le, nat_lt, List, [], ◌∷◌, length, codes, Option, Some, None, if◌then◌else◌, find}
use Rattle.std.specs.List.{list_all, list_any}
use Rattle.std.specs.Str.{bytes_eq}
use Rattle.creds.specs.Names.{is_name}
use Rattle.policy.specs.declared.decide.Decision.{Decision}
use Rattle.policy.specs.declared.rule.Action.{Action}
use Rattle.policy.specs.declared.rule.Action.TheVariants.{Open, Read, Remove}
use Rattle.policy.specs.declared.rule.Actions.{Actions}
use Rattle.policy.specs.declared.rule.Clerks.{Clerks}
use Rattle.policy.specs.declared.rule.Clerks.TheVariants as clerks
use Rattle.policy.specs.declared.rule.Effect.{Effect}
use Rattle.policy.specs.declared.rule.Effect.TheVariants.{Allow, Deny}
use Rattle.policy.specs.declared.rule.Pattern.{Pattern}
use Rattle.policy.specs.declared.rule.Pattern.TheVariants.{Any, Is}
use Rattle.policy.specs.declared.rule.Rule.{Rule}

-- a group of clerks is its name and its members, in order
pub record Group : Type 0 where
  pub name : List ℕ
  pub members : List (List ℕ)

-- a policy is its groups and its rules, in order
pub record Policy : Type 0 where
  pub groups : List Group
  pub rules : List Rule

-- ---- the decision

-- the name that is given if no rule matches
abbrev pub default_rule : List ℕ
default_rule = codes "default"

-- `*` fits every name, and a name fits itself
abbrev pub fits : Pattern → List ℕ → Bool
fits Any name = true
fits (Is wanted) name = bytes_eq wanted name

-- the clerk is a member of the group
abbrev pub has_member : Group → (clerk : List ℕ) → Bool
has_member g clerk = list_any (λ m. bytes_eq m clerk) g.members

-- the clerk is a member of a group of that name
abbrev pub is_member : List Group → (name clerk : List ℕ) → Bool
is_member groups name clerk = list_any (λ g. bytes_eq name g.name && has_member g clerk) groups

-- `*` fits every clerk, a name the clerk of that name, and `@` with a name the members of that group
abbrev pub fits_clerk : List Group → Clerks → (clerk : List ℕ) → Bool
fits_clerk groups clerks.Any clerk = true
fits_clerk groups (clerks.Is wanted) clerk = bytes_eq wanted clerk
fits_clerk groups (clerks.MembersOf name) clerk = is_member groups name clerk

-- the action is one of those listed
abbrev pub lists : Actions → Action → Bool
lists listed Open = listed.open
lists listed Read = listed.read
lists listed Remove = listed.remove

-- the pattern fits the class; opening a maildrop is about no message, so for it any pattern does
abbrev pub fits_class : Action → Pattern → List ℕ → Bool
fits_class Open wanted class = true
fits_class Read wanted class = fits wanted class
fits_class Remove wanted class = fits wanted class

-- a rule matches if it lists the action and is about the clerk, the maildrop and the class
abbrev pub matches : List Group → (clerk maildrop class : List ℕ) → Action → Rule → Bool
matches groups clerk maildrop class action r =
    lists r.actions action && fits_clerk groups r.clerk clerk && fits r.maildrop maildrop && fits_class action r.class class

-- the effect allows
abbrev pub allows : Effect → Bool
allows Allow = true
allows Deny = false

-- a rule decides by its effect; if there is none, the answer is no
abbrev pub decision_of : Option Rule → Decision
decision_of None = record { allowed = false; rule = default_rule }
decision_of (Some r) = record { allowed = allows r.effect; rule = r.name }

-- the first rule that matches decides
abbrev pub decide : Policy → (clerk maildrop class : List ℕ) → Action → Decision
decide p clerk maildrop class action = decision_of (find (matches p.groups clerk maildrop class action) p.rules)

-- ---- soundness

-- no two elements are the same
abbrev pub are_distinct : {A : Type 0} → (A → A → Bool) → List A → Bool
are_distinct same [] = true
are_distinct same (x ∷ xs) = not (list_any (same x) xs) && are_distinct same xs

-- the two rules have one name
abbrev pub same_name : Rule → Rule → Bool
same_name r s = bytes_eq r.name s.name

-- the pattern is `*`
abbrev pub is_any : Pattern → Bool
is_any Any = true
is_any (Is name) = false

-- the pattern is `*`, or its name has a name's form
abbrev pub is_pattern : Pattern → Bool
is_pattern Any = true
is_pattern (Is name) = is_name name

-- the clerks are `*`, or the clerk's or the group's name has a name's form
abbrev pub are_clerks : Clerks → Bool
are_clerks clerks.Any = true
are_clerks (clerks.Is name) = is_name name
are_clerks (clerks.MembersOf name) = is_name name

-- at least one action is listed
abbrev pub lists_any : Actions → Bool
lists_any listed = listed.open || listed.read || listed.remove

-- a rule's names have their form, its own isn't `default`, it lists an action, and it is about any
-- class if it lists `open`
abbrev pub is_sound_rule : Rule → Bool
is_sound_rule r =
    is_name r.name && not (bytes_eq r.name default_rule) && are_clerks r.clerk && is_pattern r.maildrop && is_pattern r.class
    && lists_any r.actions && (not r.actions.open || is_any r.class)

-- the greatest number of rules
abbrev pub most_rules : ℕ
most_rules = 1000

-- the rules are sound, no two have one name, and there are at most 1,000
abbrev pub are_sound_rules : List Rule → Bool
are_sound_rules rules = list_all is_sound_rule rules && are_distinct same_name rules && nat_le (length rules) most_rules

-- the greatest number of members of a group
abbrev pub most_members : ℕ
most_members = 200

-- there are 1 to 200 members, no two the same
abbrev pub are_members : List (List ℕ) → Bool
are_members names = nat_lt 0 (length names) && nat_le (length names) most_members && are_distinct bytes_eq names

-- a group's name and its members' names have their form, and the members are a group's
abbrev pub is_sound_group : Group → Bool
is_sound_group g = is_name g.name && list_all is_name g.members && are_members g.members

-- the two groups have one name
abbrev pub same_group : Group → Group → Bool
same_group g h = bytes_eq g.name h.name

-- the greatest number of groups
abbrev pub most_groups : ℕ
most_groups = 100

-- the groups are sound, no two have one name, and there are at most 100
abbrev pub are_sound_groups : List Group → Bool
are_sound_groups groups = list_all is_sound_group groups && are_distinct same_group groups && nat_le (length groups) most_groups

-- one of the groups has the name
abbrev pub has_group : List Group → (name : List ℕ) → Bool
has_group groups name = list_any (λ g. bytes_eq g.name name) groups

-- if the clerks are a group's members, that group is there
abbrev pub are_known : List Group → Clerks → Bool
are_known groups clerks.Any = true
are_known groups (clerks.Is name) = true
are_known groups (clerks.MembersOf name) = has_group groups name

-- each rule is about clerks that are known
abbrev pub know_groups : List Group → List Rule → Bool
know_groups groups rules = list_all (λ r. are_known groups r.clerk) rules

-- a policy's groups and rules are sound, and its rules name no other groups
abbrev pub is_sound_policy : Policy → Bool
is_sound_policy p = are_sound_groups p.groups && are_sound_rules p.rules && know_groups p.groups p.rules

-- the policy of these groups and rules, if it is sound
abbrev pub policy_with : List Group → List Rule → Option Policy
policy_with groups rules = if is_sound_policy (record { groups = groups; rules = rules }) then Some (record { groups = groups; rules = rules }) else None

-- the policy of these rules without groups
abbrev pub policy_of : List Rule → Option Policy
policy_of rules = policy_with [] rules
