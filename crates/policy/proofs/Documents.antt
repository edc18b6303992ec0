-- What a document comes to, whose groups or rules have a fault.
use Rattle.std.proofs.Common.{◌≡◌, ◌≤◌, true, List, [], length, Some, Ok, Err, codes, arith, refl}
use Rattle.std.proofs.lemmas.Bool.Decides.{nat_tests}
use Rattle.std.specs.Prelude.{nat_le}
use Rattle.toml.specs.Data.{Members, get_member}
use Rattle.toml.specs.View.{items_view}
use Rattle.toml.specs.declared.value.Value.{Value}
use Rattle.policy.specs.Policy.{Group, most_groups, most_rules}
use Rattle.policy.specs.PolicyText.{all_keys, groups_from, is_top_key, items_len, rules_from, rules_in, tables_at}
use Rattle.policy.specs.declared.fault.PolicyFault.{PolicyFault}
use Rattle.policy.proofs.Views.{items_len_view}

few_rules : (rs : List Value) → length rs ≤ 1000 → nat_le (items_len (items_view rs)) most_rules ≡ true
few_rules rs n = rw (items_len_view rs) (grind (arith, nat_tests, n))

few_groups : (gs : List Value) → length gs ≤ 100 → nat_le (items_len (items_view gs)) most_groups ≡ true
few_groups gs n = rw (items_len_view gs) (grind (arith, nat_tests, n))

-- its first fault is a group's
pub groups_faulty : (ms : Members) (gs rs : List Value) (e : PolicyFault) → tables_at (get_member (codes "group") ms) ≡ Some (items_view gs)
    → tables_at (get_member (codes "rule") ms) ≡ Some (items_view rs)
    → all_keys is_top_key ms ≡ true → length rs ≤ 1000 → length gs ≤ 100 → groups_from 1 [] (items_view gs) ≡ Err e → rules_in ms ≡ Err e
unfolding rules_in
groups_faulty ms gs rs e a b k m n g = rw (a, b, k, few_rules rs m, few_groups gs n, g) refl

-- its groups are read, and its first fault is a rule's
pub rules_faulty : (ms : Members) (gs rs : List Value) (groups : List Group) (e : PolicyFault) → tables_at (get_member (codes "group") ms) ≡ Some (items_view gs)
    → tables_at (get_member (codes "rule") ms) ≡ Some (items_view rs) → all_keys is_top_key ms ≡ true → length rs ≤ 1000 → length gs ≤ 100
    → groups_from 1 [] (items_view gs) ≡ Ok groups → rules_from groups 1 [] (items_view rs) ≡ Err e → rules_in ms ≡ Err e
unfolding rules_in
rules_faulty ms gs rs groups e a b k m n g r = rw (a, b, k, few_rules rs m, few_groups gs n, g, r) refl
