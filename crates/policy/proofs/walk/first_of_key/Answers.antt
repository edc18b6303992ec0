use Rattle.std.proofs.Common.{◌<◌, length, arith, sym, ◌∙◌}
use Rattle.policy.specs.Index.{has_key}
use Rattle.policy.specs.Lane.{is_about_action}
use Rattle.policy.proofs.Walking.{walks_start, walks_on, walks_found, walks_end, goes_on}
use Rattle.policy.proofs.walk.first_of_key.Goals as goal

pub loop-rule-init : goal.loop-rule-init
loop-rule-init c = λ k e. walks_start (has_key k) (is_about_action c.args.action c.args.class.now) c.args.rules.now c.args.start e

pub loop-rule-smaller : goal.loop-rule-smaller
loop-rule-smaller c =
    let within : c.loop-rule.place < length c.args.rules.now = c.in-Some.ensures.lookup.3.0 in
    let on = goes_on c.args.rules.now c.args.index.now c.loop-rule.place c.index-place.result.now c.requires within c.index-place.ensures in
    omega arith

pub loop-rule-preserved : goal.loop-rule-preserved
loop-rule-preserved c = λ k e.
    let at = c.in-Some.ensures.lookup in
    let other = sym c.is_about_action.ensures ∙ c.if-is_about_action.false in
    walks_on k (is_about_action c.args.action c.args.class.now) c.args.rules.now c.args.index.now c.loop-rule.place c.index-place.result.now c.in-Some.rule.now c.requires at.3.0 at.1 other
    c.index-place.ensures (c.loop-rule.invariant k e)

pub returns-then-is_about_action : goal.returns-then-is_about_action
returns-then-is_about_action c = λ k e.
    let at = c.in-Some.ensures.lookup in
    let found = sym c.is_about_action.ensures ∙ c.if-is_about_action.true in
    walks_found (has_key k) (is_about_action c.args.action c.args.class.now) c.args.rules.now c.loop-rule.place c.in-Some.rule.now at.3.0 at.1 found (c.loop-rule.invariant k e)

pub returns : goal.returns
returns c = λ k e.
    walks_end (has_key k) (is_about_action c.args.action c.args.class.now) c.args.rules.now c.loop-rule.place c.in_default.ensures.lookup.3 (c.loop-rule.invariant k e)
