use Rattle.std.proofs.Common.{◌≡◌, IfOk, List, ap, subst, ◌∙◌}
use Rattle.policy.specs.declared.rule.Rule.{Rule}
use Rattle.review.specs.Steps.{of_member}
use Rattle.review.proofs.MemberLemmas.{rules_of_member}
use Rattle.review.proofs.question.of_clerk.Goals as goal

pub returns : goal.returns
returns c =
    subst (λ (rules : List Rule). IfOk c.of_member.result (λ some. some.items ≡ rules))
    (ap (of_member c.args.rules.now) c.in_ok-member.ensures ∙ rules_of_member c.args.groups.now c.args.rules.now c.args.clerk.now)
    c.of_member.ensures
