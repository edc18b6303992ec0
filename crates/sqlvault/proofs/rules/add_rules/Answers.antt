use Rattle.std.proofs.Common.{◌<◌, ◌≤◌, ◌+◌, [], ◌∷◌, take, take_all, sym, subst, arith, length, Ok}
use Rattle.sqlvault.specs.Rules.{AddsRules}
use Rattle.sqlvault.proofs.FrameLemmas.{writes_none, writes_then, writes_halted, writes_failed, passed}
use Rattle.sqlvault.proofs.RuleLemmas.{none_added, added_more}
use Rattle.sqlvault.proofs.SmallLemmas.{take_next}
use Rattle.sqlvault.proofs.rules.add_rules.Goals as goal

pub loop-rule-init : goal.loop-rule-init
loop-rule-init g c = writes_none g.S.Store c.args.conn.now _ none_added

pub loop-rule-preserved : goal.loop-rule-preserved
loop-rule-preserved g c =
    let i = c.loop-rule.rule-index in
    let rules = c.args.rules.now in
    let x = c.rule-item.result in
    let lt : i < length rules = omega (arith, c.loop-rule-test.true) in
    writes_then (λ _. AddsRules (take i rules)) (AddsRules (x ∷ [])) (AddsRules (take (i + 1) rules))
    tt (Ok tt) c.loop-rule.invariant c.in_ok-add_rule.ensures
    (λ from mid to a b. subst (λ l. AddsRules l from to)
    (sym (take_next rules i x lt c.rule-item.is)) (added_more (take i rules) (x ∷ []) from mid to a b))

pub returns-in_err-add_rule : goal.returns-in_err-add_rule
returns-in_err-add_rule g c = rw (passed c.from_residual.ensures.1) (writes_failed (writes_halted
    (λ _. AddsRules (take c.loop-rule.rule-index c.args.rules.now)) tt c.loop-rule.invariant
    c.in_err-add_rule.ensures))

pub returns : goal.returns
returns g c =
    let done = c.loop-rule.invariant in
    let all : length c.args.rules.now ≤ c.loop-rule.rule-index = omega (arith, c.loop-rule-test.false) in
    rw take_all at done
