use Rattle.std.proofs.Common.{rules, ◌≡◌, ◌≢◌, true, Some, Err, codes, sym}
use Rattle.toml.specs.Data.{get_member}
use Rattle.toml.specs.View.{table_view, items_view}
use Rattle.policy.specs.declared.fault.PolicyFault.TheVariants.{NoMemory}
use Rattle.policy.specs.PolicyText.{all_keys, is_top_key, rules_in, tables_at}
use Rattle.policy.specs.Places.{place_in}
use Rattle.policy.proofs.Documents.{groups_faulty, rules_faulty}
use Rattle.policy.proofs.Placed.{are_tables_at, group_placed, rule_placed}
use Rattle.policy.proofs.Views.{items_len_view}
use Rattle.policy.proofs.read.read_table.Goals as goal

pub returns-in-Some-clause-fault : goal.returns-in-Some-clause-fault
unfolding rules_in
returns-in-Some-clause-fault c = search rules

pub returns-then-rules-gt-MAX_RULES-clause-fault : goal.returns-then-rules-gt-MAX_RULES-clause-fault
unfolding rules_in
returns-then-rules-gt-MAX_RULES-clause-fault c = search (rules, items_len_view)

pub returns-in_err-groups-2-clause-fault : goal.returns-in_err-groups-2-clause-fault
returns-in_err-groups-2-clause-fault c =
    let ms = table_view c.args.table.now in
    let gs = c.in_ok-groups.groups.now in
    let rs = c.in_ok-rules.rules.now in
    let e = c.in_err-groups-2.field-0.0.fault in
    let first : tables_at (get_member (codes "group") ms) ≡ Some (items_view gs) = sym (rw c.in_ok-groups.ensures.ok_part at c.read_tables.ensures) in
    let second : tables_at (get_member (codes "rule") ms) ≡ Some (items_view rs) = sym (rw c.in_ok-rules.ensures.ok_part at c.read_tables-2.ensures) in
    let known : all_keys is_top_key ms ≡ true = search rules in
    let stop : e ≢ NoMemory → rules_in ms ≡ Err e = λ other.
    groups_faulty ms gs rs e first second known c.if-rules-gt-MAX_RULES.false c.if-groups-gt-MAX_GROUPS.false (c.in_err-groups-2.ensures.fault other) in
    search rules

pub returns-in_err-rules-2-clause-fault : goal.returns-in_err-rules-2-clause-fault
returns-in_err-rules-2-clause-fault c =
    let ms = table_view c.args.table.now in
    let gs = c.in_ok-groups.groups.now in
    let rs = c.in_ok-rules.rules.now in
    let e = c.in_err-rules-2.field-0.0.fault in
    let first : tables_at (get_member (codes "group") ms) ≡ Some (items_view gs) = sym (rw c.in_ok-groups.ensures.ok_part at c.read_tables.ensures) in
    let second : tables_at (get_member (codes "rule") ms) ≡ Some (items_view rs) = sym (rw c.in_ok-rules.ensures.ok_part at c.read_tables-2.ensures) in
    let known : all_keys is_top_key ms ≡ true = search rules in
    let stop : e ≢ NoMemory → rules_in ms ≡ Err e = λ other.
    let at = rw c.deref.ensures.value at (c.in_err-rules-2.ensures.fault other) in
    rules_faulty ms gs rs c.in_ok-groups-2.groups.items e first second known c.if-rules-gt-MAX_RULES.false c.if-groups-gt-MAX_GROUPS.false c.in_ok-groups-2.ensures.ok at in
    search rules

pub returns-in_err-groups-2-clause-place : goal.returns-in_err-groups-2-clause-place
returns-in_err-groups-2-clause-place c =
    let ms = table_view c.args.table.now in
    let gs = c.in_ok-groups.groups.now in
    let e = c.in_err-groups-2.field-0.0 in
    let first : tables_at (get_member (codes "group") ms) ≡ Some (items_view gs) = sym (rw c.in_ok-groups.ensures.ok_part at c.read_tables.ensures) in
    let lies : e.fault ≢ NoMemory → place_in ms e.fault ≡ e.place = λ other.
    group_placed ms (items_view gs) e first (c.in_err-groups-2.ensures.place (are_tables_at (get_member (codes "group") ms) (items_view gs) first) other) in
    search rules

pub returns-in_err-rules-2-clause-place : goal.returns-in_err-rules-2-clause-place
returns-in_err-rules-2-clause-place c =
    let ms = table_view c.args.table.now in
    let rs = c.in_ok-rules.rules.now in
    let e = c.in_err-rules-2.field-0.0 in
    let second : tables_at (get_member (codes "rule") ms) ≡ Some (items_view rs) = sym (rw c.in_ok-rules.ensures.ok_part at c.read_tables-2.ensures) in
    let lies : e.fault ≢ NoMemory → place_in ms e.fault ≡ e.place = λ other.
    rule_placed ms (items_view rs) e second (c.in_err-rules-2.ensures.place (are_tables_at (get_member (codes "rule") ms) (items_view rs) second) other) in
    search rules
