use Rattle.std.proofs.Common.{◌≡◌, [], ◌∷◌, ◌++◌, length, true, false, Ok, Err, ◌+◌, ◌∙◌, ap, arith, rules}
use Rattle.std.proofs.lemmas.Grind.{common_steps}
use Rattle.std.specs.Prelude.{nat_le}
use Rattle.std.proofs.lemmas.List.{length-append}
use Rattle.std.proofs.lemmas.Bool.Decides.{nat_tests}
use Rattle.toml.specs.Data.{as_table}
use Rattle.toml.specs.View.{view, items_view}
use Rattle.toml.specs.declared.value.Value.{Value}
use Rattle.policy.specs.Places.{LiesInRules}
use Rattle.policy.proofs.Placed.{rule_lies, table_there}
use Rattle.policy.specs.PolicyText.{has_name, rule_at, rules_from}
use Rattle.policy.specs.declared.rule.Rule.{Rule}
use Rattle.policy.specs.Policy.{are_known, is_sound_rule, most_rules}
use Rattle.policy.proofs.SoundRules.{list_all-push, are_distinct-push, are_sound-by}
use Rattle.policy.proofs.Views.{rules_from-next, rules_from-stop, rules_from-end}
use Rattle.policy.proofs.read.read_rules.Goals as goal

pub returns-in_err-rule-clause-fault : goal.returns-in_err-rule-clause-fault
returns-in_err-rule-clause-fault c =
    let read : rule_at c.args.groups.now (c.loop-i.i + 1) c.deref.result.now (view c.index-values-i.result) ≡ Err c.in_err-rule.field-0.0.fault = c.in_err-rule.ensures.fault in
    let at = rw (c.deref.ensures.value, c.index-values-i.is) at read in
    let stop : rules_from c.args.groups.now 1 [] (items_view c.args.values.now) ≡ Err c.in_err-rule.field-0.0.fault =
    c.loop-i.invariant.owed ∙ rules_from-stop c.args.groups.now
    (c.loop-i.i + 1) c.loop-i.rules.items c.in_err-rule.field-0.0.fault c.args.values.now c.loop-i.i c.index-values-i.result (omega arith) at in
    search rules

pub returns-in_err-rule-clause-place : goal.returns-in_err-rule-clause-place
returns-in_err-rule-clause-place c = λ tables.
    let table = table_there c.args.values.now c.loop-i.i c.index-values-i.result (omega arith) tables in
    let at = c.in_err-rule.ensures.place table.0 (ap (λ (v : Value). as_table (view v)) c.index-values-i.is ∙ table.1) in
    let lies : LiesInRules (items_view c.args.values.now) c.in_err-rule.field-0.0 =
    rule_lies c.args.values.now c.loop-i.i c.index-values-i.result table.0 c.in_err-rule.field-0.0 (omega arith) table.1 at in
    search rules

pub loop-i-preserved : goal.loop-i-preserved
loop-i-preserved c =
    let read : rule_at c.args.groups.now (c.loop-i.i + 1) c.deref.result.now (view c.index-values-i.result) ≡ Ok c.in_ok-rule.rule = c.in_ok-rule.ensures.ok in
    let at = rw (c.deref.ensures.value, c.index-values-i.is) at read in
    let pushed : c.push.new.self.items ≡ c.loop-i.rules.items ++ c.in_ok-rule.rule ∷ [] = grind (arith, common_steps) in
    let owed = c.loop-i.invariant.owed
    ∙ rules_from-next c.args.groups.now (c.loop-i.i + 1) c.loop-i.rules.items c.in_ok-rule.rule c.args.values.now c.loop-i.i c.index-values-i.result (omega arith) at in
    let own : has_name c.loop-i.rules.items c.in_ok-rule.rule.name ≡ false = rw c.deref.ensures.value at c.in_ok-rule.ensures.own_name in
    rw pushed (record {
      owed = owed;
      count = rw length-append (omega (arith, c.loop-i.invariant.count));
      sound = list_all-push is_sound_rule c.loop-i.rules.items c.in_ok-rule.rule c.loop-i.invariant.sound c.in_ok-rule.ensures.sound;
      apart = are_distinct-push c.loop-i.rules.items c.in_ok-rule.rule c.loop-i.invariant.apart own;
      known = list_all-push (λ (r : Rule). are_known c.args.groups.now r.clerk) c.loop-i.rules.items c.in_ok-rule.rule c.loop-i.invariant.known c.in_ok-rule.ensures.known;
    })

pub returns-clause-ok : goal.returns-clause-ok
returns-clause-ok c =
    let e = rules_from-end c.args.groups.now (c.loop-i.i + 1) c.loop-i.rules.items c.args.values.now c.loop-i.i c.loop-i-test.false in
    c.loop-i.invariant.owed ∙ e

pub returns-clause-sound : goal.returns-clause-sound
returns-clause-sound c =
    let few : nat_le (length c.loop-i.rules.items) most_rules ≡ true = grind (arith, nat_tests, c.loop-i.invariant.count, c.requires) in
    are_sound-by c.loop-i.rules.items c.loop-i.invariant.sound c.loop-i.invariant.apart few
