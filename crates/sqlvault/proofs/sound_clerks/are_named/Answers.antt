use Rattle.std.proofs.Common.{◌<◌, ◌≤◌, length, refl, sym, ◌∙◌, arith}
use Rattle.creds.specs.Names.{is_name}
use Rattle.sqlvault.proofs.EachLemmas.{all_next, all_fails, all_each}
use Rattle.sqlvault.proofs.sound_clerks.are_named.Goals as goal

pub loop-row-init : goal.loop-row-init
loop-row-init c = refl

pub loop-row-preserved : goal.loop-row-preserved
loop-row-preserved c =
    let lt : c.loop-row.row-index < length c.args.rows.now = omega (arith, c.loop-row-test.true) in
    all_next is_name c.args.rows.now c.loop-row.row-index c.row-item.result lt c.row-item.is c.loop-row.invariant (sym c.is_maildrop.ensures ∙ c.if-not-is_maildrop.false)

pub returns-then-not-is_maildrop : goal.returns-then-not-is_maildrop
returns-then-not-is_maildrop c =
    let lt : c.loop-row.row-index < length c.args.rows.now = omega (arith, c.loop-row-test.true) in
    sym (all_fails is_name c.args.rows.now c.loop-row.row-index c.row-item.result lt c.row-item.is (sym c.is_maildrop.ensures ∙ c.if-not-is_maildrop.true))

pub returns : goal.returns
returns c =
    let all : length c.args.rows.now ≤ c.loop-row.row-index = omega (arith, c.loop-row-test.false) in
    sym (all_each is_name c.args.rows.now c.loop-row.row-index all c.loop-row.invariant)
