use Rattle.std.proofs.Common.{◌≡◌, [], ◌∷◌, ◌++◌, Some, None, ◌∙◌, sym, arith, rules}
use Rattle.std.proofs.lemmas.Grind.{common_steps}
use Rattle.toml.specs.View.{view, items_view}
use Rattle.creds.specs.Names.{is_name}
use Rattle.policy.specs.PolicyText.{name_at, names_from}
use Rattle.policy.specs.Places.{names_before}
use Rattle.policy.proofs.SoundRules.{list_all-push, name_at-some}
use Rattle.policy.proofs.Views.{names_from-next, names_from-stop, names_from-end}
use Rattle.policy.proofs.Placed.{names_before-next, names_before-stop}
use Rattle.policy.proofs.read_groups.read_names.Goals as goal

pub returns-in_err-name-clause-fault : goal.returns-in_err-name-clause-fault
returns-in_err-name-clause-fault c =
    let read : name_at (view c.index-values-i.result) ≡ None = sym c.read_name.ensures ∙ c.in_err-name.ensures.ok_part in
    let at = rw c.index-values-i.is at read in
    let stop : names_from [] (items_view c.args.values.now) ≡ None =
    c.loop-i.invariant.owed ∙ names_from-stop c.loop-i.names.items c.args.values.now c.loop-i.i c.index-values-i.result (omega arith) at in
    let none = names_before-stop c.args.values.now c.loop-i.i c.index-values-i.result (omega arith) at in
    let before : names_before (items_view c.args.values.now) ≡ c.loop-i.i = omega (arith, none, c.loop-i.invariant.before) in
    search rules

pub loop-i-preserved : goal.loop-i-preserved
loop-i-preserved c =
    let read : name_at (view c.index-values-i.result) ≡ Some c.in_ok-name.name = sym c.read_name.ensures ∙ c.in_ok-name.ensures.ok_part in
    let formed = name_at-some (view c.index-values-i.result) c.in_ok-name.name read in
    let at = rw c.index-values-i.is at read in
    let next = names_before-next c.args.values.now c.loop-i.i c.index-values-i.result c.in_ok-name.name (omega arith) at in
    let pushed : c.push.new.self.items ≡ c.loop-i.names.items ++ c.in_ok-name.name ∷ [] = grind (arith, common_steps) in
    rw pushed (record {
      owed = c.loop-i.invariant.owed ∙ names_from-next c.loop-i.names.items c.in_ok-name.name c.args.values.now c.loop-i.i c.index-values-i.result (omega arith) at;
      before = omega (arith, next, c.loop-i.invariant.before);
      formed = list_all-push is_name c.loop-i.names.items c.in_ok-name.name c.loop-i.invariant.formed formed;
    })

pub returns-clause-ok : goal.returns-clause-ok
returns-clause-ok c =
    let e = names_from-end c.loop-i.names.items c.args.values.now c.loop-i.i c.loop-i-test.false in
    c.loop-i.invariant.owed ∙ e
