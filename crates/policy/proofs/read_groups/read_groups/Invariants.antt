use Rattle.std.proofs.Common.{◌≡◌, ◌+◌, [], drop, length, true}
use Rattle.std.specs.List.{list_all}
use Rattle.toml.specs.View.{items_view}
use Rattle.policy.specs.Policy.{are_distinct, same_group, is_sound_group}
use Rattle.policy.specs.PolicyText.{groups_from}
use Rattle.policy.proofs.read_groups.read_groups.Given as goal

abbrev pub invariant-loop-i : goal.invariant-loop-i
invariant-loop-i l = record {
  owed : groups_from 1 [] (items_view l.values) ≡ groups_from (l.i + 1) l.groups.items (items_view (drop l.i l.values));
  count : length l.groups.items ≡ l.i;
  sound : list_all is_sound_group l.groups.items ≡ true;
  apart : are_distinct same_group l.groups.items ≡ true;
}
