use Rattle.std.proofs.Common.{◌≡◌, ◌+◌, [], drop, length, true}
use Rattle.std.specs.List.{list_all}
use Rattle.toml.specs.View.{items_view}
use Rattle.policy.specs.Policy.{are_distinct, same_name, is_sound_rule, know_groups}
use Rattle.policy.specs.PolicyText.{rules_from}
use Rattle.policy.proofs.read.read_rules.Given as goal

abbrev pub invariant-loop-i : goal.invariant-loop-i
invariant-loop-i l = record {
  owed : rules_from l.groups 1 [] (items_view l.values) ≡ rules_from l.groups (l.i + 1) l.rules.items (items_view (drop l.i l.values));
  count : length l.rules.items ≡ l.i;
  sound : list_all is_sound_rule l.rules.items ≡ true;
  apart : are_distinct same_name l.rules.items ≡ true;
  known : know_groups l.groups l.rules.items ≡ true;
}
