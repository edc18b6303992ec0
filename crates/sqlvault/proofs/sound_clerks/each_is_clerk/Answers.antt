use Rattle.std.proofs.Common.{◌<◌, ◌≤◌, length, refl, sym, ◌∙◌, arith}
use Rattle.sqlvault.specs.RowForms.{is_clerk_row}
use Rattle.sqlvault.proofs.EachLemmas.{all_next, all_fails, all_each}
use Rattle.sqlvault.proofs.sound_clerks.each_is_clerk.Goals as goal

pub loop-row-init : goal.loop-row-init
loop-row-init c = refl

pub loop-row-preserved : goal.loop-row-preserved
loop-row-preserved c =
    let lt : c.loop-row.row-index < length c.args.rows.now = omega (arith, c.loop-row-test.true) in
    all_next is_clerk_row c.args.rows.now c.loop-row.row-index c.row-item.result lt c.row-item.is c.loop-row.invariant (sym c.is_clerk.ensures ∙ c.if-not-is_clerk.false)

pub returns-then-not-is_clerk : goal.returns-then-not-is_clerk
returns-then-not-is_clerk c =
    let lt : c.loop-row.row-index < length c.args.rows.now = omega (arith, c.loop-row-test.true) in
    sym (all_fails is_clerk_row c.args.rows.now c.loop-row.row-index c.row-item.result lt c.row-item.is (sym c.is_clerk.ensures ∙ c.if-not-is_clerk.true))

pub returns : goal.returns
returns c =
    let all : length c.args.rows.now ≤ c.loop-row.row-index = omega (arith, c.loop-row-test.false) in
    sym (all_each is_clerk_row c.args.rows.now c.loop-row.row-index all c.loop-row.invariant)
