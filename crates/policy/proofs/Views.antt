-- What a table and an array of the code stand for.
use Rattle.std.proofs.Common.{◌≡◌, ℕ, ◌+◌, ◌<◌, ◌≤◌, Bool, List, [], ◌∷◌, ◌++◌, length, get_or, drop, Some, None, is_some, Ok, Err, String, Global, string_bytes, refl, arith}
use Rattle.std.proofs.Math.ListN.{drop_of_length-le}
use Rattle.std.specs.List.{list_all}
use Rattle.std.specs.Map.{keys_of}
use Rattle.toml.specs.declared.value.Value.{Value}
use Rattle.toml.specs.View.{view, members_view, items_view}
use Rattle.toml.proofs.Views.{items_view-drop}
use Rattle.policy.specs.Policy.{Group}
use Rattle.policy.specs.PolicyText.{all_keys, name_at, names_from, group_at, groups_from, with_items, with_item, actions_of_items, no_actions, are_tables, items_len, rule_at, rules_from}
use Rattle.toml.specs.Data.{as_table}
use Rattle.policy.specs.declared.rule.Actions.{Actions}
use Rattle.policy.specs.declared.rule.Rule.{Rule}
use Rattle.policy.specs.declared.fault.PolicyFault.{PolicyFault}

-- a test of the keys of a table
pub all_keys-view : (p : List ℕ → Bool) (es : List (String Global × Value)) → all_keys p (members_view es) ≡ list_all (λ k. p (string_bytes k)) (keys_of es)
all_keys-view p [] = refl
all_keys-view p (e ∷ es) = rw (all_keys-view p es)

-- one more item
pub with_items-next : (a b : Actions) (vs : List Value) (i : ℕ) (d : Value) → i < length vs → with_item a (view (get_or vs i d)) ≡ Some b
    → with_items a (items_view (drop i vs)) ≡ with_items b (items_view (drop (i + 1) vs))
unfolding with_items
with_items-next a b vs i d h e = rw (items_view-drop vs i d h, e)

-- an item that is no action
pub with_items-stop : (a : Actions) (vs : List Value) (i : ℕ) (d : Value) → i < length vs → with_item a (view (get_or vs i d)) ≡ None → with_items a (items_view (drop i vs)) ≡ None
unfolding with_items
with_items-stop a vs i d h e = rw (items_view-drop vs i d h, e)

-- no items left
pub with_items-end : (a : Actions) (vs : List Value) (i : ℕ) → length vs ≤ i → with_items a (items_view (drop i vs)) ≡ Some a
unfolding with_items
with_items-end a vs i h = rw (drop_of_length-le vs h)

-- with an item the actions are read from none
pub actions_of_items-some : (vs : List Value) → 0 < length vs → actions_of_items (items_view vs) ≡ with_items no_actions (items_view vs)
actions_of_items-some [] h = absurd (omega arith)
actions_of_items-some (v ∷ vs) h = refl

-- a test of each item
pub are_tables_view : (vs : List Value) → are_tables (items_view vs) ≡ list_all (λ v. is_some (as_table (view v))) vs
are_tables_view [] = refl
are_tables_view (v ∷ vs) = rw (are_tables_view vs)

pub items_len_view : (vs : List Value) → items_len (items_view vs) ≡ length vs
items_len_view [] = refl
items_len_view (v ∷ vs) = omega (arith, items_len_view vs)

-- one more name
pub names_from-next : (before : List (List ℕ)) (name : List ℕ) (vs : List Value) (i : ℕ) (d : Value) → i < length vs → name_at (view (get_or vs i d)) ≡ Some name
    → names_from before (items_view (drop i vs)) ≡ names_from (before ++ name ∷ []) (items_view (drop (i + 1) vs))
unfolding names_from
names_from-next before name vs i d h e = rw (items_view-drop vs i d h, e)

-- an item that is no name
pub names_from-stop : (before : List (List ℕ)) (vs : List Value) (i : ℕ) (d : Value) → i < length vs → name_at (view (get_or vs i d)) ≡ None → names_from before (items_view (drop i vs)) ≡ None
unfolding names_from
names_from-stop before vs i d h e = rw (items_view-drop vs i d h, e)

-- no names left
pub names_from-end : (before : List (List ℕ)) (vs : List Value) (i : ℕ) → length vs ≤ i → names_from before (items_view (drop i vs)) ≡ Some before
unfolding names_from
names_from-end before vs i h = rw (drop_of_length-le vs h)

-- one more group
pub groups_from-next : (n : ℕ) (before : List Group) (g : Group) (vs : List Value) (i : ℕ) (d : Value) → i < length vs → group_at n before (view (get_or vs i d)) ≡ Ok g
    → groups_from n before (items_view (drop i vs)) ≡ groups_from (n + 1) (before ++ g ∷ []) (items_view (drop (i + 1) vs))
unfolding groups_from
groups_from-next n before g vs i d h e = rw (items_view-drop vs i d h, e)

-- a group with a fault
pub groups_from-stop : (n : ℕ) (before : List Group) (e : PolicyFault) (vs : List Value) (i : ℕ) (d : Value) → i < length vs → group_at n before (view (get_or vs i d)) ≡ Err e
    → groups_from n before (items_view (drop i vs)) ≡ Err e
unfolding groups_from
groups_from-stop n before e vs i d h q = rw (items_view-drop vs i d h, q)

-- no groups left
pub groups_from-end : (n : ℕ) (before : List Group) (vs : List Value) (i : ℕ) → length vs ≤ i → groups_from n before (items_view (drop i vs)) ≡ Ok before
unfolding groups_from
groups_from-end n before vs i h = rw (drop_of_length-le vs h)

-- one more rule
pub rules_from-next : (groups : List Group) (n : ℕ) (before : List Rule) (r : Rule) (vs : List Value) (i : ℕ) (d : Value) → i < length vs → rule_at groups n before (view (get_or vs i d)) ≡ Ok r
    → rules_from groups n before (items_view (drop i vs)) ≡ rules_from groups (n + 1) (before ++ r ∷ []) (items_view (drop (i + 1) vs))
unfolding rules_from
rules_from-next groups n before r vs i d h e = rw (items_view-drop vs i d h, e)

-- a rule with a fault
pub rules_from-stop : (groups : List Group) (n : ℕ) (before : List Rule) (e : PolicyFault) (vs : List Value) (i : ℕ) (d : Value) → i < length vs
    → rule_at groups n before (view (get_or vs i d)) ≡ Err e
    → rules_from groups n before (items_view (drop i vs)) ≡ Err e
unfolding rules_from
rules_from-stop groups n before e vs i d h q = rw (items_view-drop vs i d h, q)

-- no rules left
pub rules_from-end : (groups : List Group) (n : ℕ) (before : List Rule) (vs : List Value) (i : ℕ) → length vs ≤ i → rules_from groups n before (items_view (drop i vs)) ≡ Ok before
unfolding rules_from
rules_from-end groups n before vs i h = rw (drop_of_length-le vs h)
