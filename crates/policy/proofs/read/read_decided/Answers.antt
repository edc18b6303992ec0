use Rattle.std.proofs.Common.{rules, ◌≡◌, true, not, ◌||◌, ◌∙◌, sym, refl, arith}
use Rattle.toml.specs.View.{view}
use Rattle.policy.specs.declared.rule.Rule.{Rule}
use Rattle.policy.specs.Policy.{is_any}
use Rattle.policy.specs.PolicyText.{decided}
use Rattle.policy.proofs.SoundRules.{actions_of-some, is_sound_rule-by}
use Rattle.policy.proofs.read.read_decided.Goals as goal
use Rattle.policy.proofs.read.read_decided.Goals.{else-actions-via-then-actions+else-not-is_any_pattern, else-actions-via-else-actions}

pub returns-clause-sound : goal.returns-clause-sound
returns-clause-sound c sound =
    let subject = c.args.subject in
    let rule : Rule = record { name = subject.name; effect = c.in_ok-effect.effect; clerk = subject.clerk; maildrop = subject.maildrop; class = subject.class; actions = c.in_ok-actions.actions } in
    let actions = actions_of-some (view c.args.settings.now.actions.now) rule.actions (sym c.read_actions.ensures ∙ c.in_ok-actions.ensures.ok_part) in
    let general : (not rule.actions.open || is_any rule.class) ≡ true =
    elim c.else-actions.branch [ else-actions-via-then-actions+else-not-is_any_pattern w ↦ grind arith | else-actions-via-else-actions w ↦ grind arith ] in
    is_sound_rule-by subject rule refl refl refl refl sound actions general

pub returns-in_err-actions-clause-fault : goal.returns-in_err-actions-clause-fault
unfolding decided
returns-in_err-actions-clause-fault c = search rules
