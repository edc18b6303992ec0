-- What the number of a fault says. A rule's: the groups and the rules before that rule are read, and
-- the rule has the fault. A group's: the groups before it are read, and the group has the fault.
use Rattle.std.specs.Prelude.{◌≡◌, ℕ, zero, suc, ◌+◌, List, [], length, codes, Option, Some, None, Ok, Err}
use Rattle.toml.specs.Data.{Data, Items, no_items, item, Members, get_member}
use Rattle.toml.specs.Parse.{parse_document}
use Rattle.policy.specs.WrittenText.{fault_number, group_number}
use Rattle.policy.specs.Policy.{Group}
use Rattle.policy.specs.PolicyText.{group_at, groups_from, rule_at, rules_from, tables_at, rules_of}
use Rattle.policy.specs.declared.fault.PolicyFault.{PolicyFault}
use Rattle.policy.specs.declared.rule.Rule.{Rule}

-- the first n items, or all
abbrev pub first_items : ℕ → Items → Items
first_items zero ds = no_items
first_items (suc n) no_items = no_items
first_items (suc n) (item d ds) = item d (first_items n ds)

-- the item at place n, counted from 0, if any
abbrev pub item_at : Items → ℕ → Option Data
item_at no_items n = None
item_at (item d ds) zero = Some d
item_at (item d ds) (suc n) = item_at ds n

-- the items before number n, counted from 1, are read as rules, and item n has the fault
pub record IsFirstFault (groups : List Group) (ds : Items) (n : ℕ) (f : PolicyFault) : Type 0 where
  pub before : List Rule
  pub number : n ≡ length before + 1
  pub read : rules_from groups 1 [] (first_items (length before) ds) ≡ Ok before
  pub rule : Data
  pub there : item_at ds (length before) ≡ Some rule
  pub faulty : rule_at groups n before rule ≡ Err f

-- a text's groups are read, and item n of its rules has the first fault
pub record IsFirstFaultOf (text : List ℕ) (n : ℕ) (f : PolicyFault) : Type 0 where
  pub members : Members
  pub parsed : parse_document text ≡ Some members
  pub group_tables : Items
  pub groups_listed : tables_at (get_member (codes "group") members) ≡ Some group_tables
  pub groups : List Group
  pub groups_read : groups_from 1 [] group_tables ≡ Ok groups
  pub rule_tables : Items
  pub rules_listed : tables_at (get_member (codes "rule") members) ≡ Some rule_tables
  pub first : IsFirstFault groups rule_tables n f

-- a text's fault with a rule's number is the first of the text
abbrev pub NumbersTheFirstFault : Type 0
NumbersTheFirstFault = (text : List ℕ) (n : ℕ) (f : PolicyFault) → rules_of text ≡ Err f → fault_number f ≡ Some (suc n) → IsFirstFaultOf text (suc n) f

-- ---- a group's number

-- the items before number n, counted from 1, are read as groups, and item n has the fault
pub record IsFirstGroupFault (ds : Items) (n : ℕ) (f : PolicyFault) : Type 0 where
  pub before : List Group
  pub number : n ≡ length before + 1
  pub read : groups_from 1 [] (first_items (length before) ds) ≡ Ok before
  pub group : Data
  pub there : item_at ds (length before) ≡ Some group
  pub faulty : group_at n before group ≡ Err f

-- item n of a text's groups has the first fault
pub record IsFirstGroupFaultOf (text : List ℕ) (n : ℕ) (f : PolicyFault) : Type 0 where
  pub members : Members
  pub parsed : parse_document text ≡ Some members
  pub group_tables : Items
  pub groups_listed : tables_at (get_member (codes "group") members) ≡ Some group_tables
  pub first : IsFirstGroupFault group_tables n f

-- a text's fault with a group's number is the first of the text
abbrev pub NumbersTheFirstGroup : Type 0
NumbersTheFirstGroup = (text : List ℕ) (n : ℕ) (f : PolicyFault) → rules_of text ≡ Err f → group_number f ≡ Some n → IsFirstGroupFaultOf text n f
