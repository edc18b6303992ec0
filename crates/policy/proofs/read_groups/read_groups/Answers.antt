use Rattle.std.proofs.Common.{◌≡◌, ◌≢◌, ap, [], ◌∷◌, ◌++◌, length, true, false, Err, ◌+◌, ◌∙◌, arith, rules}
use Rattle.std.proofs.lemmas.Grind.{common_steps}
use Rattle.std.specs.Prelude.{nat_le}
use Rattle.std.proofs.lemmas.List.{length-append}
use Rattle.std.proofs.lemmas.Bool.Decides.{nat_tests}
use Rattle.toml.specs.Data.{as_table}
use Rattle.toml.specs.View.{view, items_view}
use Rattle.toml.specs.declared.value.Value.{Value}
use Rattle.policy.specs.Places.{LiesInGroups}
use Rattle.policy.proofs.Placed.{group_lies, table_there}
use Rattle.policy.specs.PolicyText.{groups_from}
use Rattle.policy.specs.Policy.{has_group, is_sound_group, most_groups}
use Rattle.policy.specs.declared.fault.PolicyFault.TheVariants.{NoMemory}
use Rattle.policy.proofs.SoundRules.{list_all-push, are_distinct-group, are_sound_groups-by}
use Rattle.policy.proofs.Views.{groups_from-next, groups_from-stop, groups_from-end}
use Rattle.policy.proofs.read_groups.read_groups.Goals as goal

pub returns-in_err-group-clause-fault : goal.returns-in_err-group-clause-fault
returns-in_err-group-clause-fault c =
    let stop : c.in_err-group.field-0.0.fault ≢ NoMemory → groups_from 1 [] (items_view c.args.values.now) ≡ Err c.in_err-group.field-0.0.fault = λ other.
    let at = rw (c.deref.ensures.value, c.index-values-i.is) at (c.in_err-group.ensures.fault other) in
    c.loop-i.invariant.owed ∙ groups_from-stop (c.loop-i.i + 1) c.loop-i.groups.items c.in_err-group.field-0.0.fault c.args.values.now c.loop-i.i c.index-values-i.result (omega arith) at in
    search rules

pub returns-in_err-group-clause-place : goal.returns-in_err-group-clause-place
returns-in_err-group-clause-place c = λ tables.
    let table = table_there c.args.values.now c.loop-i.i c.index-values-i.result (omega arith) tables in
    let lies : c.in_err-group.field-0.0.fault ≢ NoMemory → LiesInGroups (items_view c.args.values.now) c.in_err-group.field-0.0 = λ other.
    let at = c.in_err-group.ensures.place table.0 (ap (λ (v : Value). as_table (view v)) c.index-values-i.is ∙ table.1) other in
    group_lies c.args.values.now c.loop-i.i c.index-values-i.result table.0 c.in_err-group.field-0.0 (omega arith) table.1 at in
    search rules

pub loop-i-preserved : goal.loop-i-preserved
loop-i-preserved c =
    let at = rw (c.deref.ensures.value, c.index-values-i.is) at c.in_ok-group.ensures.ok in
    let pushed : c.push.new.self.items ≡ c.loop-i.groups.items ++ c.in_ok-group.group ∷ [] = grind (arith, common_steps) in
    let owed = c.loop-i.invariant.owed ∙ groups_from-next (c.loop-i.i + 1) c.loop-i.groups.items c.in_ok-group.group c.args.values.now c.loop-i.i c.index-values-i.result (omega arith) at in
    let own : has_group c.loop-i.groups.items c.in_ok-group.group.name ≡ false = rw c.deref.ensures.value at c.in_ok-group.ensures.own_name in
    rw pushed (record {
      owed = owed;
      count = rw length-append (omega (arith, c.loop-i.invariant.count));
      sound = list_all-push is_sound_group c.loop-i.groups.items c.in_ok-group.group c.loop-i.invariant.sound c.in_ok-group.ensures.sound;
      apart = are_distinct-group c.loop-i.groups.items c.in_ok-group.group c.loop-i.invariant.apart own;
    })

pub returns-clause-ok : goal.returns-clause-ok
returns-clause-ok c =
    let e = groups_from-end (c.loop-i.i + 1) c.loop-i.groups.items c.args.values.now c.loop-i.i c.loop-i-test.false in
    c.loop-i.invariant.owed ∙ e

pub returns-clause-sound : goal.returns-clause-sound
returns-clause-sound c =
    let few : nat_le (length c.loop-i.groups.items) most_groups ≡ true = grind (arith, nat_tests, c.loop-i.invariant.count, c.requires) in
    are_sound_groups-by c.loop-i.groups.items c.loop-i.invariant.sound c.loop-i.invariant.apart few
