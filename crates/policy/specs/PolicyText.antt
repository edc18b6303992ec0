-- Reading the text of a policy, which is TOML 1.0: its groups and rules, or its first fault.
-- WrittenText has how a policy is written.
use Rattle.std.specs.Prelude.{ℕ, ◌+◌, ◌&&◌, ◌||◌, not, nat_le, Bool, true, false, List, [], ◌∷◌, ◌++◌, codes, Option, Some, None, option_and_then, option_map, is_some, take, drop, Result, Ok, Err, if◌then◌else◌}
use Rattle.std.specs.List.{list_any}
use Rattle.std.specs.Str.{bytes_eq}
use Rattle.toml.specs.Data.{Data, Items, no_items, item, Members, no_members, member, get_member, as_str, as_array, as_table}
use Rattle.toml.specs.View.{view}
use Rattle.toml.specs.Parse.{parse_document}
use Rattle.creds.specs.Names.{name_of, is_name}
use Rattle.policy.specs.Policy.{Group, Policy, default_rule, has_group, are_known, are_clerks, are_members, is_any, is_pattern, most_groups, most_rules}
use Rattle.policy.specs.declared.fault.PolicyFault.{PolicyFault}
use Rattle.policy.specs.declared.fault.PolicyFault.TheVariants.{NotToml, GroupKeys, GroupName, GroupDouble, GroupMembers, MissingKey, UnknownKey, BadName, UnknownGroup, DoubleName, BadEffect, BadActions, OpenWithClass, TooMany, TooManyGroups}
use Rattle.policy.specs.declared.read.Settings.{Settings as SettingValues}
use Rattle.policy.specs.declared.read.Subject.{Subject}
use Rattle.policy.specs.declared.rule.Action.{Action}
use Rattle.policy.specs.declared.rule.Action.TheVariants.{Open, Read, Remove}
use Rattle.policy.specs.declared.rule.Actions.{Actions}
use Rattle.policy.specs.declared.rule.Clerks.{Clerks}
use Rattle.policy.specs.declared.rule.Clerks.TheVariants as clerks
use Rattle.policy.specs.declared.rule.Effect.{Effect}
use Rattle.policy.specs.declared.rule.Effect.TheVariants.{Allow, Deny}
use Rattle.policy.specs.declared.rule.Pattern.{Pattern}
use Rattle.policy.specs.declared.rule.Pattern.TheVariants.{Any, Is}
use Rattle.policy.specs.declared.rule.Rule.{Rule}
pub use Rattle.policy.specs.WrittenText.{fault_text, policy_text}

-- the first fault ends the reading
infixl 10 ◌>>=◌
-- two steps of reading; if the first has a fault, that is the answer
abbrev pub ◌>>=◌ : {A B : Type 0} → Result A PolicyFault → (A → Result B PolicyFault) → Result B PolicyFault
Ok x >>= f = f x
Err e >>= f = Err e

-- the value, or this fault if there is none
abbrev pub value_or : {A : Type 0} → Option A → PolicyFault → Result A PolicyFault
value_or (Some x) e = Ok x
value_or None e = Err e

-- this fault, unless the test holds
abbrev pub demand : Bool → PolicyFault → Result (Unit {0}) PolicyFault
demand true e = Ok tt
demand false e = Err e

-- each key passes the test
abbrev pub all_keys : (List ℕ → Bool) → Members → Bool
all_keys p no_members = true
all_keys p (member k d ms) = p k && all_keys p ms

-- ---- the groups

-- the keys of a group
unfoldable pub is_group_key : List ℕ → Bool
is_group_key k = bytes_eq k (codes "name") || bytes_eq k (codes "members")

-- the name that a value is, if it is text of a name's form
abbrev pub name_at : Data → Option (List ℕ)
name_at d = option_and_then name_of (as_str d)

-- the names before, and then those of the items, if each item is a name
unfoldable pub names_from : List (List ℕ) → Items → Option (List (List ℕ))
names_from before no_items = Some before
names_from before (item d ds) = option_and_then (λ name. names_from (before ++ name ∷ []) ds) (name_at d)

-- the names, if they can be a group's members
abbrev pub members_if : List (List ℕ) → Option (List (List ℕ))
members_if names = if are_members names then Some names else None

-- the members of an array
abbrev pub members_of : Data → Option (List (List ℕ))
members_of d = option_and_then (λ ds. option_and_then members_if (names_from [] ds)) (as_array d)

-- the group of number n, given the groups before it, or its first fault
unfoldable pub group_of : ℕ → List Group → Members → Result Group PolicyFault
group_of n before ms = do
  name_value ← value_or (get_member (codes "name") ms) (GroupKeys n)
  members_value ← value_or (get_member (codes "members") ms) (GroupKeys n)
  known ← demand (all_keys is_group_key ms) (GroupKeys n)
  name ← value_or (name_at name_value) (GroupName n)
  single ← demand (not (has_group before name)) (GroupDouble n)
  members ← value_or (members_of members_value) (GroupMembers n)
  Ok (record { name = name; members = members })

-- the group of an item of number n
abbrev pub group_at : ℕ → List Group → Data → Result Group PolicyFault
group_at n before d = value_or (as_table d) NotToml >>= group_of n before

-- the groups before, and then those of the items, numbered from n on; or the first fault
unfoldable pub groups_from : ℕ → List Group → Items → Result (List Group) PolicyFault
groups_from n before no_items = Ok before
groups_from n before (item d ds) = group_at n before d >>= (λ g. groups_from (n + 1) (before ++ g ∷ []) ds)

-- ---- a rule

-- the keys of a rule
unfoldable pub is_rule_key : List ℕ → Bool
is_rule_key k =
    bytes_eq k (codes "name") || bytes_eq k (codes "effect") || bytes_eq k (codes "clerk")
    || bytes_eq k (codes "maildrop") || bytes_eq k (codes "class") || bytes_eq k (codes "actions")

-- a rule's name: a text that is a name, and not `default`
abbrev pub rule_name_of : Data → Option (List ℕ)
rule_name_of d = option_and_then (λ s. if bytes_eq s default_rule then None else name_of s) (as_str d)

-- the pattern of a name
abbrev pub named : Option (List ℕ) → Option Pattern
named None = None
named (Some name) = Some (Is name)

-- `*`, or a name
abbrev pub pattern_of : Data → Option Pattern
pattern_of d = option_and_then (λ s. if bytes_eq s (codes "*") then Some Any else named (name_of s)) (as_str d)

-- the clerks of a text: `*`, `@` and a group's name, or a clerk's name
abbrev pub clerks_named : List ℕ → Option Clerks
clerks_named s =
    if bytes_eq s (codes "*") then Some clerks.Any
    else if bytes_eq (take 1 s) (codes "@") then option_map clerks.MembersOf (name_of (drop 1 s))
    else option_map clerks.Is (name_of s)

-- the clerks of a value, if it is text
abbrev pub clerks_of : Data → Option Clerks
clerks_of d = option_and_then clerks_named (as_str d)

-- `allow` or `deny`
abbrev pub effect_of : Data → Option Effect
effect_of d = option_and_then (λ s. if bytes_eq s (codes "allow") then Some Allow else if bytes_eq s (codes "deny") then Some Deny else None) (as_str d)

-- `open`, `read` or `remove`
abbrev pub action_of : List ℕ → Option Action
action_of s =
    if bytes_eq s (codes "open") then Some Open else if bytes_eq s (codes "read") then Some Read
    else if bytes_eq s (codes "remove") then Some Remove else None

-- the actions with one more, if that isn't listed yet
abbrev pub with_action : Actions → Action → Option Actions
with_action listed Open = if listed.open then None else Some (record listed { «open» = true })
with_action listed Read = if listed.read then None else Some (record listed { read = true })
with_action listed Remove = if listed.remove then None else Some (record listed { remove = true })

-- the actions with the action of an item, if it is one and isn't listed yet
abbrev pub with_item : Actions → Data → Option Actions
with_item listed d = option_and_then (λ s. option_and_then (with_action listed) (action_of s)) (as_str d)

-- the actions with those of the items, if all are actions and different
unfoldable pub with_items : Actions → Items → Option Actions
with_items listed no_items = Some listed
with_items listed (item d ds) = option_and_then (λ more. with_items more ds) (with_item listed d)

-- no action is listed
abbrev pub no_actions : Actions
no_actions = record { «open» = false; read = false; remove = false }

-- at least one item, each of them an action, and no two the same
abbrev pub actions_of_items : Items → Option Actions
actions_of_items no_items = None
actions_of_items (item d ds) = with_items no_actions (item d ds)

-- the actions of an array
abbrev pub actions_of : Data → Option Actions
actions_of d = option_and_then actions_of_items (as_array d)

-- one of the rules has the name
abbrev pub has_name : List Rule → List ℕ → Bool
has_name rules name = list_any (λ r. bytes_eq r.name name) rules

-- the six values of a rule's table
pub record Settings : Type 0 where
  pub name : Data
  pub effect : Data
  pub clerk : Data
  pub maildrop : Data
  pub class : Data
  pub actions : Data

-- the data that the values hold
abbrev pub seen : SettingValues → Settings
seen r = record { name = view r.name.now; effect = view r.effect.now; clerk = view r.clerk.now; maildrop = view r.maildrop.now; class = view r.class.now; actions = view r.actions.now }

-- the six values of rule n's table, which must hold no others
unfoldable pub settings_of : ℕ → Members → Result Settings PolicyFault
settings_of n ms = do
  name ← value_or (get_member (codes "name") ms) (MissingKey n)
  effect ← value_or (get_member (codes "effect") ms) (MissingKey n)
  clerk ← value_or (get_member (codes "clerk") ms) (MissingKey n)
  maildrop ← value_or (get_member (codes "maildrop") ms) (MissingKey n)
  class ← value_or (get_member (codes "class") ms) (MissingKey n)
  actions ← value_or (get_member (codes "actions") ms) (MissingKey n)
  known ← demand (all_keys is_rule_key ms) (UnknownKey n)
  Ok (record { name = name; effect = effect; clerk = clerk; maildrop = maildrop; class = class; actions = actions })

-- the subject's names have their form, and the rule's isn't `default`
abbrev pub is_sound_subject : Subject → Bool
is_sound_subject s = is_name s.name && not (bytes_eq s.name default_rule) && are_clerks s.clerk && is_pattern s.maildrop && is_pattern s.class

-- the names of rule n, given the groups and the rules before it
unfoldable pub subject_of : List Group → ℕ → List Rule → Settings → Result Subject PolicyFault
subject_of groups n before settings = do
  name ← value_or (rule_name_of settings.name) (BadName n)
  clerk ← value_or (clerks_of settings.clerk) (BadName n)
  maildrop ← value_or (pattern_of settings.maildrop) (BadName n)
  class ← value_or (pattern_of settings.class) (BadName n)
  there ← demand (are_known groups clerk) (UnknownGroup n)
  single ← demand (not (has_name before name)) (DoubleName n)
  Ok (record { name = name; clerk = clerk; maildrop = maildrop; class = class })

-- rule n: its subject with its effect and actions
unfoldable pub decided : ℕ → Subject → Settings → Result Rule PolicyFault
decided n subject settings = do
  effect ← value_or (effect_of settings.effect) (BadEffect n)
  actions ← value_or (actions_of settings.actions) (BadActions n)
  general ← demand (not actions.open || is_any subject.class) (OpenWithClass n)
  Ok (record { name = subject.name; effect = effect; clerk = subject.clerk; maildrop = subject.maildrop; class = subject.class; actions = actions })

-- the rule of number n, given the groups and the rules before it, or its first fault
unfoldable pub rule_of : List Group → ℕ → List Rule → Members → Result Rule PolicyFault
rule_of groups n before ms = do
  settings ← settings_of n ms
  subject ← subject_of groups n before settings
  decided n subject settings

-- the rule of an item of number n
abbrev pub rule_at : List Group → ℕ → List Rule → Data → Result Rule PolicyFault
rule_at groups n before d = value_or (as_table d) NotToml >>= rule_of groups n before

-- the rules before, and then those of the items, numbered from n on; or the first fault
unfoldable pub rules_from : List Group → ℕ → List Rule → Items → Result (List Rule) PolicyFault
rules_from groups n before no_items = Ok before
rules_from groups n before (item d ds) = rule_at groups n before d >>= (λ r. rules_from groups (n + 1) (before ++ r ∷ []) ds)

-- ---- a document

-- each item is a table
abbrev pub are_tables : Items → Bool
are_tables no_items = true
are_tables (item d ds) = is_some (as_table d) && are_tables ds

-- how many items there are
abbrev pub items_len : Items → ℕ
items_len no_items = 0
items_len (item d ds) = 1 + items_len ds

-- the items, if each is a table
abbrev pub tables_of : Items → Option Items
tables_of ds = if are_tables ds then Some ds else None

-- the array of tables at a key; no items if the key is absent
abbrev pub tables_at : Option Data → Option Items
tables_at None = Some no_items
tables_at (Some d) = option_and_then tables_of (as_array d)

-- the two keys of a document
abbrev pub is_top_key : List ℕ → Bool
is_top_key k = bytes_eq k (codes "group") || bytes_eq k (codes "rule")

-- the policy of a document
unfoldable pub rules_in : Members → Result Policy PolicyFault
rules_in ms = do
  group_tables ← value_or (tables_at (get_member (codes "group") ms)) NotToml
  rule_tables ← value_or (tables_at (get_member (codes "rule") ms)) NotToml
  known ← demand (all_keys is_top_key ms) (UnknownKey 0)
  few ← demand (nat_le (items_len rule_tables) most_rules) TooMany
  few_groups ← demand (nat_le (items_len group_tables) most_groups) TooManyGroups
  groups ← groups_from 1 [] group_tables
  rules ← rules_from groups 1 [] rule_tables
  Ok (record { groups = groups; rules = rules })

-- the policy of a text, or its first fault
unfoldable pub rules_of : List ℕ → Result Policy PolicyFault
rules_of text = value_or (parse_document text) NotToml >>= rules_in
