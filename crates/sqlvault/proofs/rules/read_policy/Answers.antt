use Rattle.std.proofs.Common.{◌≡◌, Option, Vec, Global, subst, ap, ◌∙◌}
use Rattle.std.specs.Prelude.{IsSomeAnd}
use Rattle.policy.specs.declared.rule.Rule as rule
use Rattle.policy.specs.Policy.{policy_with}
use Rattle.sqlvault.proofs.RuleLemmas.{some_same, policy_read, sound_rules}
use Rattle.sqlvault.proofs.rules.read_policy.Goals as goal

pub returns-in-Some-2 : goal.returns-in-Some-2
returns-in-Some-2 c p sound groups same =
    let items = subst (λ (o : Option (Vec rule.Rule Global)). IsSomeAnd o (λ (v : Vec rule.Rule Global). v.items ≡ p.rules)) c.in-Some.is
    (c.in_ok-rules.ensures.all p.rules (sound_rules p sound) same) in
    some_same _ c.in-Some-2.policy p c.in-Some-2.is
    (c.in_ok-policy-in-Some.ensures ∙ ap (λ gs. policy_with gs c.in-Some.rules.items) groups ∙ ap (policy_with p.groups) items ∙ policy_read p sound)
