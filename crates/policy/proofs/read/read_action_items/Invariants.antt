use Rattle.std.proofs.Common.{◌≡◌, drop}
use Rattle.toml.specs.View.{items_view}
use Rattle.policy.specs.PolicyText.{with_items, no_actions}
use Rattle.policy.proofs.read.read_action_items.Given as goal

abbrev pub invariant-loop-item : goal.invariant-loop-item
invariant-loop-item l = with_items no_actions (items_view l.items) ≡ with_items l.actions (items_view (drop l.item-index l.items))
