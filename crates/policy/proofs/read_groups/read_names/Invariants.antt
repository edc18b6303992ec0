use Rattle.std.proofs.Common.{◌≡◌, ◌+◌, [], drop, true}
use Rattle.std.specs.List.{list_all}
use Rattle.toml.specs.View.{items_view}
use Rattle.creds.specs.Names.{is_name}
use Rattle.policy.specs.Places.{names_before}
use Rattle.policy.specs.PolicyText.{names_from}
use Rattle.policy.proofs.read_groups.read_names.Given as goal

abbrev pub invariant-loop-i : goal.invariant-loop-i
invariant-loop-i l = record {
  owed : names_from [] (items_view l.values) ≡ names_from l.names.items (items_view (drop l.i l.values));
  before : names_before (items_view l.values) ≡ l.i + names_before (items_view (drop l.i l.values));
  formed : list_all is_name l.names.items ≡ true;
}
