-- Where the parts of the reading have their faults.
use Rattle.std.proofs.Common.{◌≡◌, ℕ, zero, suc, ◌+◌, ◌<◌, Bool, true, false, not, List, [], ◌∷◌, length, get_or, drop, codes, Option, Some, None, cond, is_some, String, Global}
use Rattle.std.proofs.Common.{string_bytes, refl, sym, subst, ◌∙◌, arith}
use Rattle.std.specs.Prelude.{option_and_then, if◌then◌else◌}
use Rattle.std.specs.List.{position, position_from}
use Rattle.std.specs.Map.{keys_of}
use Rattle.std.proofs.lemmas.Bool.{and_parts}
use Rattle.std.proofs.lemmas.Iterator.Adapters.{position_from-zero}
use Rattle.toml.specs.Data.{Data, Items, no_items, Members, member, get_member, get_item, as_array, as_table}
use Rattle.toml.specs.declared.value.Value.{Value}
use Rattle.toml.specs.View.{view, members_view, items_view}
use Rattle.toml.proofs.Views.{items_view-drop}
use Rattle.policy.specs.PolicyText.{Settings, all_keys, are_tables, clerks_of, name_at, pattern_of, rule_name_of, tables_at, tables_of}
use Rattle.policy.specs.Places.{AreValuesOf, IsStray, LiesInGroup, LiesInGroups, LiesInRule, LiesInRules, known_before, names_before, place_in, in_rule}
use Rattle.policy.specs.declared.fault.PolicyFault.TheVariants.{BadName}
use Rattle.policy.specs.declared.place.Place.TheVariants.{Name, Clerk, Maildrop, Class}
use Rattle.policy.specs.declared.place.PlacedFault.{PlacedFault}

-- ---- a stray key

-- the same of keys that are counted from i on
StrayFrom : (List ℕ → Bool) → Members → ℕ → Option ℕ → Type 0
StrayFrom p ms i None = all_keys p ms ≡ true
StrayFrom p ms i (Some at) = (all_keys p ms ≡ false) × (i + known_before p ms ≡ at)

stray_step : (p : List ℕ → Bool) (k : List ℕ) (d : Data) (ms : Members) (i : ℕ) (b : Bool) (o : Option ℕ) → p k ≡ b → StrayFrom p ms (i + 1) o
    → StrayFrom p (member k d ms) i (cond (not b) (Some i) o)
unfolding StrayFrom
stray_step p k d ms i true None e h = rw e h
stray_step p k d ms i true (Some at) e h = let n = h.1 in (rw e h.0, rw e (omega (arith, n)))
stray_step p k d ms i false o e h = (rw e refl, rw e (omega arith))

stray_from : (p : List ℕ → Bool) (i : ℕ) (es : List (String Global × Value)) → StrayFrom p (members_view es) i (position_from (λ k. not (p (string_bytes k))) i (keys_of es))
unfolding StrayFrom
stray_from p i [] = refl
stray_from p i (e ∷ es) =
    stray_step p (string_bytes e.0) (view e.1) (members_view es) i (p (string_bytes e.0)) (position_from (λ k. not (p (string_bytes k))) (i + 1) (keys_of es)) refl (stray_from p (i + 1) es)

from_zero : (p : List ℕ → Bool) (ms : Members) (o : Option ℕ) → StrayFrom p ms 0 o → IsStray p ms o
unfolding StrayFrom
from_zero p ms None h = h
from_zero p ms (Some at) h = let n = h.1 in (h.0, omega (arith, n))

pub stray_in : (p : List ℕ → Bool) (es : List (String Global × Value)) (o : Option ℕ) → o ≡ position (λ k. not (p (string_bytes k))) (keys_of es) → IsStray p (members_view es) o
stray_in p es o e =
    let all : o ≡ position_from (λ k. not (p (string_bytes k))) 0 (keys_of es) = e ∙ position_from-zero (λ k. not (p (string_bytes k))) (keys_of es) in
    from_zero p (members_view es) o (subst (StrayFrom p (members_view es) 0) (sym all) (stray_from p 0 es))

-- ---- items

-- the item at a place
pub item_there : (vs : List Value) (i : ℕ) (d : Value) → i < length vs → get_item i (items_view vs) ≡ Some (view (get_or vs i d))
item_there [] i d h = absurd (omega arith)
item_there (v ∷ vs) zero d h = refl
item_there (v ∷ vs) (suc i) d h = item_there vs i d (omega arith)

-- of tables each is one
is_table : (o : Option Members) → is_some o ≡ true → (ms : Members) × (o ≡ Some ms)
is_table None h = absurd (cc)
is_table (Some ms) h = (ms, refl)

pub table_there : (vs : List Value) (i : ℕ) (d : Value) → i < length vs → are_tables (items_view vs) ≡ true → (ms : Members) × (as_table (view (get_or vs i d)) ≡ Some ms)
table_there [] i d h t = absurd (omega arith)
table_there (v ∷ vs) zero d h t = is_table (as_table (view v)) (and_parts _ _ t).0
table_there (v ∷ vs) (suc i) d h t = table_there vs i d (omega arith) (and_parts _ _ t).1

-- what is an array of tables has tables alone
tables_if : (ds es : Items) (b : Bool) → are_tables ds ≡ b → (if b then Some ds else None) ≡ Some es → are_tables es ≡ true
tables_if ds es true t h = let e : ds ≡ es = cc in rw (← e) t
tables_if ds es false t h = absurd (cc)

of_array : (o : Option Items) (es : Items) → option_and_then tables_of o ≡ Some es → are_tables es ≡ true
of_array None es h = absurd (cc)
of_array (Some ds) es h = tables_if ds es (are_tables ds) refl h

pub are_tables_at : (o : Option Data) (es : Items) → tables_at o ≡ Some es → are_tables es ≡ true
are_tables_at None es h = let e : no_items ≡ es = cc in rw (← e) refl
are_tables_at (Some d) es h = of_array (as_array d) es h

-- a fault of the table at a place is one of the array
pub group_lies : (vs : List Value) (i : ℕ) (d : Value) (ms : Members) (p : PlacedFault) → i < length vs → as_table (view (get_or vs i d)) ≡ Some ms
    → LiesInGroup (i + 1) ms p → LiesInGroups (items_view vs) p
group_lies vs i d ms p h t lies =
    let there = item_there vs i d h in
    let next : i + 1 ≡ suc i = omega arith in
    (suc i, rw next at lies.0, rw (there, t) lies.1)

pub rule_lies : (vs : List Value) (i : ℕ) (d : Value) (ms : Members) (p : PlacedFault) → i < length vs → as_table (view (get_or vs i d)) ≡ Some ms
    → LiesInRule (i + 1) ms p → LiesInRules (items_view vs) p
rule_lies vs i d ms p h t lies =
    let there = item_there vs i d h in
    let next : i + 1 ≡ suc i = omega arith in
    (i, lies.0, rw next at lies.1, rw (there, t) lies.2)

-- a fault of the groups, or of the rules, is one of the document
pub group_placed : (ms : Members) (ds : Items) (p : PlacedFault) → tables_at (get_member (codes "group") ms) ≡ Some ds → LiesInGroups ds p → place_in ms p.fault ≡ p.place
unfolding place_in
group_placed ms ds p a lies = rw (lies.1, a) lies.2

pub rule_placed : (ms : Members) (ds : Items) (p : PlacedFault) → tables_at (get_member (codes "rule") ms) ≡ Some ds → LiesInRules ds p → place_in ms p.fault ≡ p.place
unfolding place_in
rule_placed ms ds p a lies = rw (lies.1, lies.2, a) lies.3

-- ---- the names of a rule

module _ (n : ℕ) (ms : Members) (s : Settings) (are : AreValuesOf ms s) where
  pub name_lies : rule_name_of s.name ≡ None → in_rule ms (BadName n) ≡ Name
  unfolding in_rule
  name_lies a = rw (are.name, a) refl

  pub clerk_lies : is_some (rule_name_of s.name) ≡ true → clerks_of s.clerk ≡ None → in_rule ms (BadName n) ≡ Clerk
  unfolding in_rule
  clerk_lies a b = rw (are.name, a, are.clerk, b) refl

  pub maildrop_lies : is_some (rule_name_of s.name) ≡ true → is_some (clerks_of s.clerk) ≡ true → pattern_of s.maildrop ≡ None → in_rule ms (BadName n) ≡ Maildrop
  unfolding in_rule
  maildrop_lies a b c = rw (are.name, a, are.clerk, b, are.maildrop, c) refl

  pub class_lies : is_some (rule_name_of s.name) ≡ true → is_some (clerks_of s.clerk) ≡ true → is_some (pattern_of s.maildrop) ≡ true → in_rule ms (BadName n) ≡ Class
  unfolding in_rule
  class_lies a b c = rw (are.name, a, are.clerk, b, are.maildrop, c) refl

-- ---- the members of a group

-- one more name
pub names_before-next : (vs : List Value) (i : ℕ) (d : Value) (name : List ℕ) → i < length vs → name_at (view (get_or vs i d)) ≡ Some name
    → names_before (items_view (drop i vs)) ≡ names_before (items_view (drop (i + 1) vs)) + 1
names_before-next vs i d name h e = rw (items_view-drop vs i d h, e) refl

-- an item that is no name
pub names_before-stop : (vs : List Value) (i : ℕ) (d : Value) → i < length vs → name_at (view (get_or vs i d)) ≡ None → names_before (items_view (drop i vs)) ≡ 0
names_before-stop vs i d h e = rw (items_view-drop vs i d h, e) refl
