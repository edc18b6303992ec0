use Rattle.std.proofs.Common.{◌≡◌, Option, Vec, Global, subst, ap, ◌∙◌}
use Rattle.std.specs.Prelude.{is_some, IfSome, IsSomeAnd, pos, map}
use Rattle.policy.specs.declared.rule.Rule as rule
use Rattle.policy.specs.Policy.{Policy}
use Rattle.sqlvault.specs.Keeps.{rule_row, at_place}
use Rattle.sqlvault.proofs.RowFormLemmas.{read_judged, none_judged}
use Rattle.sqlvault.proofs.sound_rules.are_rules.Goals as goal

pub returns-in_ok-from_parts-in-Some : goal.returns-in_ok-from_parts-in-Some
returns-in_ok-from_parts-in-Some c =
    let rows = c.args.rows.now in
    read_judged c.args.groups.items rows c.in-Some.rules.items c.is_some.result
    (subst (λ (o : Option (Vec rule.Rule Global)). IfSome o (λ (v : Vec rule.Rule Global). map (at_place (pos 0)) rows ≡ map (rule_row (pos 0)) v.items)) c.in-Some.is c.in_ok-rules.ensures.rows)
    (λ rs sound same. subst (λ (o : Option (Vec rule.Rule Global)). IsSomeAnd o (λ (v : Vec rule.Rule Global). v.items ≡ rs)) c.in-Some.is (c.in_ok-rules.ensures.all rs sound same))
    (c.is_some.ensures ∙ ap (λ (o : Option Policy). is_some o) c.in_ok-from_parts-in-Some.ensures)

pub returns-in-None : goal.returns-in-None
returns-in-None c =
    none_judged c.args.groups.items c.args.rows.now
    (λ rs sound same. subst (λ (o : Option (Vec rule.Rule Global)). IsSomeAnd o (λ (v : Vec rule.Rule Global). v.items ≡ rs)) c.in-None.is (c.in_ok-rules.ensures.all rs sound same))
