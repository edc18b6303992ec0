use Rattle.std.proofs.Common.{◌≡◌, ◌<◌, length, ◌∙◌, sym, arith, Some, None}
use Rattle.std.proofs.lemmas.Grind.{common_steps}
use Rattle.toml.specs.View.{view}
use Rattle.policy.specs.PolicyText.{with_item}
use Rattle.policy.proofs.Views.{actions_of_items-some, with_items-next, with_items-stop, with_items-end}
use Rattle.policy.proofs.read.read_action_items.Goals as goal

pub returns-in_err-actions : goal.returns-in_err-actions
returns-in_err-actions c =
    let failed : with_item c.loop-item.actions (view c.item-item.result) ≡ None = sym c.with_one_item.ensures ∙ c.in_err-actions.was in
    let at = rw c.item-item.is at failed in
    c.from_residual.ensures ∙ sym (actions_of_items-some c.args.items.now (omega arith) ∙ c.loop-item.invariant
    ∙ with_items-stop c.loop-item.actions c.args.items.now c.loop-item.item-index c.item-item.result (omega arith) at)

pub loop-item-preserved : goal.loop-item-preserved
loop-item-preserved c =
    let more : with_item c.loop-item.actions (view c.item-item.result) ≡ Some c.in_ok-actions.actions = sym c.with_one_item.ensures ∙ c.in_ok-actions.was in
    let at = rw c.item-item.is at more in
    c.loop-item.invariant ∙ with_items-next c.loop-item.actions c.in_ok-actions.actions c.args.items.now c.loop-item.item-index c.item-item.result (omega arith) at

pub returns : goal.returns
returns c =
    let some : 0 < length c.args.items.now = grind (arith, common_steps, c.is_empty.ensures, c.if-is_empty.false) in
    sym (actions_of_items-some c.args.items.now some ∙ c.loop-item.invariant ∙ with_items-end c.loop-item.actions c.args.items.now c.loop-item.item-index (omega arith))
