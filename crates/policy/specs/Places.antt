-- Where in a policy's text its first fault lies: a key of the group or the rule that the fault
-- numbers. If a fault may be about several keys it is the first by which PolicyText has it.
use Rattle.std.specs.Prelude.{◌≡◌, ℕ, zero, suc, Bool, true, false, ◌&&◌, ◌+◌, nat_le, nat_lt, List}
use Rattle.std.specs.Prelude.{[], ◌∷◌, length, codes, Option, Some, None, option_and_then, is_some}
use Rattle.std.specs.Prelude.{if◌then◌else◌}
use Rattle.std.specs.List.{list_any}
use Rattle.std.specs.Str.{bytes_eq}
use Rattle.toml.specs.Data.{Data, Items, no_items, item, Members, no_members, member, get_member}
use Rattle.toml.specs.Data.{get_item, as_array, as_table}
use Rattle.toml.specs.Parse.{parse_document}
use Rattle.policy.specs.Policy.{most_members}
use Rattle.policy.specs.WrittenText.{fault_number, group_number}
use Rattle.policy.specs.PolicyText.{Settings, all_keys, clerks_of, is_group_key, is_rule_key}
use Rattle.policy.specs.PolicyText.{is_top_key, name_at, names_from, pattern_of, rule_name_of}
use Rattle.policy.specs.PolicyText.{tables_at}
use Rattle.policy.specs.declared.fault.PolicyFault.{PolicyFault}
use Rattle.policy.specs.declared.fault.PolicyFault.TheVariants.{NotToml, GroupKeys, GroupMembers}
use Rattle.policy.specs.declared.fault.PolicyFault.TheVariants.{MissingKey, UnknownKey, BadName}
use Rattle.policy.specs.declared.fault.PolicyFault.TheVariants.{UnknownGroup, BadEffect, BadActions}
use Rattle.policy.specs.declared.fault.PolicyFault.TheVariants.{OpenWithClass, TooManyGroups}
use Rattle.policy.specs.declared.place.Place.{Place}
use Rattle.policy.specs.declared.place.Place.TheVariants.{Text, Groups, Rules, Stray, Name}
use Rattle.policy.specs.declared.place.Place.TheVariants.{Members as TheMembers, Member, Again}
use Rattle.policy.specs.declared.place.Place.TheVariants.{Effect, Clerk, Maildrop, Class, Actions}
use Rattle.policy.specs.declared.place.PlacedFault.{PlacedFault}

-- how many keys stand before the first that fails the test
abbrev pub known_before : (List ℕ → Bool) → Members → ℕ
known_before p no_members = 0
known_before p (member k d ms) = if p k then known_before p ms + 1 else 0

-- the place of the first key that fails the test, if one does
abbrev pub IsStray : (List ℕ → Bool) → Members → Option ℕ → Type 0
IsStray p ms None = all_keys p ms ≡ true
IsStray p ms (Some at) = (all_keys p ms ≡ false) × (known_before p ms ≡ at)

-- the table has the key
abbrev pub has : List ℕ → Members → Bool
has key ms = is_some (get_member key ms)

-- the table has the key, and its value has the form
abbrev pub has_form : {A : Type 0} → (Data → Option A) → List ℕ → Members → Bool
has_form form key ms = is_some (option_and_then form (get_member key ms))

-- ---- in a group's table

-- the key that it lacks, or else the first that no group has
abbrev pub of_group_keys : Members → Place
of_group_keys ms =
    if has (codes "name") ms then
    (if has (codes "members") ms then Stray (known_before is_group_key ms) else TheMembers)
    else Name

-- how many items stand before the first that is no name
abbrev pub names_before : Items → ℕ
names_before no_items = 0
names_before (item d ds) = if is_some (name_at d) then names_before ds + 1 else 0

-- how many names stand before the first that stands again
abbrev pub single_before : List (List ℕ) → ℕ
single_before [] = 0
single_before (name ∷ names) =
    if list_any (bytes_eq name) names then 0 else single_before names + 1

-- of names: their number, or else the first that stands again
abbrev pub of_names : List (List ℕ) → Place
of_names names =
    if nat_lt 0 (length names) && nat_le (length names) most_members
    then Again (single_before names) else TheMembers

-- of items: the first that is no name, or else a place of their names
abbrev pub of_items : Items → Option (List (List ℕ)) → Place
of_items ds None = Member (names_before ds)
of_items ds (Some names) = of_names names

-- of what `members` is: itself, if it is no array
abbrev pub of_members : Option Items → Place
of_members None = TheMembers
of_members (Some ds) = of_items ds (names_from [] ds)

-- where a group's fault lies in its table
unfoldable pub in_group : Members → PolicyFault → Place
in_group ms (GroupKeys n) = of_group_keys ms
in_group ms (GroupMembers n) =
    of_members (option_and_then as_array (get_member (codes "members") ms))
in_group ms f = Name

-- ---- in a rule's table

-- the first of the six keys that it lacks
abbrev pub missing : Members → Place
missing ms =
    if has (codes "name") ms then
    (if has (codes "effect") ms then
    (if has (codes "clerk") ms then
    (if has (codes "maildrop") ms then
    (if has (codes "class") ms then Actions else Class) else Maildrop) else Clerk) else Effect)
    else Name

-- the first of its four names that isn't of its form
abbrev pub misnamed : Members → Place
misnamed ms =
    if has_form rule_name_of (codes "name") ms then
    (if has_form clerks_of (codes "clerk") ms then
    (if has_form pattern_of (codes "maildrop") ms then Class else Maildrop) else Clerk)
    else Name

-- where a rule's fault lies in its table
unfoldable pub in_rule : Members → PolicyFault → Place
in_rule ms (MissingKey n) = missing ms
in_rule ms (UnknownKey n) = Stray (known_before is_rule_key ms)
in_rule ms (BadName n) = misnamed ms
in_rule ms (UnknownGroup n) = Clerk
in_rule ms (BadEffect n) = Effect
in_rule ms (BadActions n) = Actions
in_rule ms (OpenWithClass n) = Class
in_rule ms f = Name

-- ---- in a text

-- the table of number n, from 1, of an array at a key
abbrev pub table_of : ℕ → Option Items → Option Members
table_of zero ds = None
table_of (suc n) ds = option_and_then (λ ds. option_and_then as_table (get_item n ds)) ds

-- where it lies in that table
abbrev pub in_table : (Members → PolicyFault → Place) → Option Members → PolicyFault → Place
in_table within None f = Text
in_table within (Some ms) f = within ms f

-- of a fault that no group and no rule has: `group`, if that is no array of tables; else `rule`
abbrev pub of_arrays : Members → PolicyFault → Place
of_arrays ms TooManyGroups = Groups
of_arrays ms NotToml =
    if is_some (tables_at (get_member (codes "group") ms)) then Rules else Groups
of_arrays ms f = Rules

-- by the numbers of the group and the rule that have the fault
abbrev pub place_by : (of_group of_rule : Option ℕ) → Members → PolicyFault → Place
place_by (Some n) of_rule ms f =
    in_table in_group (table_of n (tables_at (get_member (codes "group") ms))) f
place_by None (Some zero) ms f = Stray (known_before is_top_key ms)
place_by None (Some n) ms f =
    in_table in_rule (table_of n (tables_at (get_member (codes "rule") ms))) f
place_by None None ms f = of_arrays ms f

-- where a fault lies in a document
unfoldable pub place_in : Members → PolicyFault → Place
place_in ms f = place_by (group_number f) (fault_number f) ms f

-- where it lies in the document that a text is, if it is one
abbrev pub in_document : Option Members → PolicyFault → Place
in_document None f = Text
in_document (Some ms) f = place_in ms f

-- where a fault lies in a text; one that is no TOML has it as a whole
unfoldable pub place_of : List ℕ → PolicyFault → Place
place_of text f = in_document (parse_document text) f

-- ---- what the parts of the reading say

-- the six values of a rule's table
pub record AreValuesOf (ms : Members) (s : Settings) : Type 0 where
  pub name : get_member (codes "name") ms ≡ Some s.name
  pub effect : get_member (codes "effect") ms ≡ Some s.effect
  pub clerk : get_member (codes "clerk") ms ≡ Some s.clerk
  pub maildrop : get_member (codes "maildrop") ms ≡ Some s.maildrop
  pub class : get_member (codes "class") ms ≡ Some s.class
  pub actions : get_member (codes "actions") ms ≡ Some s.actions

-- group n has the fault, at this place of its table
abbrev pub LiesInGroup : ℕ → Members → PlacedFault → Type 0
LiesInGroup n ms p = (group_number p.fault ≡ Some n) × (in_group ms p.fault ≡ p.place)

-- rule n has the fault, at this place of its table
abbrev pub LiesInRule : ℕ → Members → PlacedFault → Type 0
LiesInRule n ms p =
    (group_number p.fault ≡ None) × (fault_number p.fault ≡ Some n)
    × (in_rule ms p.fault ≡ p.place)

-- one of the items has the fault, at this place of its table
abbrev pub LiesInGroups : Items → PlacedFault → Type 0
LiesInGroups ds p =
    (n : ℕ) × (group_number p.fault ≡ Some n)
    × (in_table in_group (table_of n (Some ds)) p.fault ≡ p.place)

abbrev pub LiesInRules : Items → PlacedFault → Type 0
LiesInRules ds p =
    (n : ℕ) × (group_number p.fault ≡ None) × (fault_number p.fault ≡ Some (suc n))
    × (in_table in_rule (table_of (suc n) (Some ds)) p.fault ≡ p.place)
