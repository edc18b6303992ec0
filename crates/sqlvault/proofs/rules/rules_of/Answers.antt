use Rattle.std.proofs.lemmas.Grind.{common_steps}
use Rattle.std.proofs.Common.{◌≡◌, ◌<◌, true, pos, map, sym, ap, subst, arith, length}
use Rattle.policy.specs.Policy.{is_sound_rule}
use Rattle.sqlvault.specs.Keeps.{rule_row}
use Rattle.sqlvault.proofs.RuleLemmas.{row_at}
use Rattle.sqlvault.proofs.RowFormLemmas.{rows_more, items_more}
use Rattle.sqlvault.proofs.SmallLemmas.{all_at}
use Rattle.sqlvault.proofs.rules.rules_of.Goals as goal

pub loop-row-init : goal.loop-row-init
loop-row-init c = (sym (ap (map (rule_row (pos 0))) c.new-rules.ensures.items), λ rs sound same. c.new-rules.ensures.items)

pub loop-row-preserved : goal.loop-row-preserved
loop-row-preserved c =
    let i = c.loop-row.row-index in
    let row = c.row-item.result in
    let r = c.in-Some.rule in
    let items = c.loop-row.rules.items in
    let grown = c.extend_from_slice.new.self.items in
    let lt : i < length c.args.rows.now = omega (arith, c.loop-row-test.true) in (
      rows_more c.args.rows.now items grown i row r lt c.row-item.is c.in-Some.ensures.row c.in_ok-extend_from_slice.ensures.items c.loop-row.invariant.0,
      λ rs sound same. let at = row_at c.args.rows.now rs i row lt c.row-item.is same in
          let s = at.0 in
          let ok = subst (λ x. is_sound_rule x ≡ true) (sym at.3) (all_at is_sound_rule rs i s at.1 sound) in
          items_more rs items grown i r s at.1 at.3 (c.in-Some.ensures.read s ok at.2) c.in_ok-extend_from_slice.ensures.items (c.loop-row.invariant.1 rs sound same),
    )

pub returns-in_default-clause-all : goal.returns-in_default-clause-all
returns-in_default-clause-all c rs sound same =
    let lt : c.loop-row.row-index < length c.args.rows.now = omega (arith, c.loop-row-test.true) in
    let at = row_at c.args.rows.now rs c.loop-row.row-index c.row-item.result lt c.row-item.is same in
    let ok = subst (λ x. is_sound_rule x ≡ true) (sym at.3) (all_at is_sound_rule rs c.loop-row.row-index at.0 at.1 sound) in
    let read = c.in_default.ensures.read at.0 ok at.2 in
    let is = c.in_default.is in
    let not = c.in_default.not-Some in
    cc

pub returns-clause-rows : goal.returns-clause-rows
returns-clause-rows c = grind (arith, common_steps)

pub returns-clause-all : goal.returns-clause-all
returns-clause-all c = grind (arith, common_steps)
