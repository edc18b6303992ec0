-- One row more is counted; what a fault leaves.
use Rattle.std.proofs.Common.{◌<◌, length, arith, refl, ◌∙◌}
use Rattle.vault.proofs.CallLemmas.{looks_none, looks_once, looks_then, looks_last, looks_self}
use Rattle.recent.specs.Recalling.{total_by}
use Rattle.recent.proofs.Sums.{listed, same_at}
use Rattle.recent.proofs.Looks.{passed_on}
use Rattle.recent.proofs.totals.count_all.Goals as goal

pub loop-row-init : goal.loop-row-init
loop-row-init g c = record {
  looks = looks_none g.V.Vault c.args.vault.now (g.met.V.Vault.settled c.args.vault.now);
  fits = λ d h k fit. fit;
}

pub loop-row-preserved : goal.loop-row-preserved
loop-row-preserved g c =
    let s = c.loop-row.invariant in
    let t = c.in_ok-count_again.ensures in
    let i = c.loop-row.row-index in
    let lt : i < length c.loop-row.rows = omega (arith, c.loop-row-test.true) in
    record {
      looks = looks_then s.looks (looks_once g.V.Vault t.looks (λ own. tt));
      fits = λ d h k fit.
          let mid = t.looks.clean k in
          let was = s.fits d h mid fit in
          let one = t.answer d (s.looks.held d h mid) k
          (listed d c.loop-row.rows was i c.row-item.result lt) in
          same_at (total_by d.messages) c.loop-row.rows i c.row-item.result c.count_again.new.row lt
          one.so ∙ was;
    }

pub returns-in_err-count_again-clause-answer : goal.returns-in_err-count_again-clause-answer
returns-in_err-count_again-clause-answer g c d h k fit =
    let s = c.loop-row.invariant in
    let t = c.in_err-count_again.ensures in
    let mid = t.looks.clean k in
    let i = c.loop-row.row-index in
    let lt : i < length c.loop-row.rows = omega (arith, c.loop-row-test.true) in
    let was = s.fits d h mid fit in
    let one = t.answer d (s.looks.held d h mid) k
    (listed d c.loop-row.rows was i c.row-item.result lt) in
    rw (passed_on c.from_residual.result c.in_err-count_again.field-0.0 c.from_residual.ensures.1)
    (record { answer = one.answer; so = tt })

pub returns-in_err-count_again-clause-looks : goal.returns-in_err-count_again-clause-looks
returns-in_err-count_again-clause-looks g c =
    rw (passed_on c.from_residual.result c.in_err-count_again.field-0.0 c.from_residual.ensures.1)
    (looks_last g.V.Vault c.loop-row.invariant.looks c.in_err-count_again.ensures.looks)

pub returns-clause-answer : goal.returns-clause-answer
returns-clause-answer g c d h k fit =
    record { answer = refl; so = c.loop-row.invariant.fits d h k fit }

pub returns-clause-looks : goal.returns-clause-looks
returns-clause-looks g c =
    looks_last g.V.Vault c.loop-row.invariant.looks
    (looks_self g.V.Vault c.loop-row.vault tt (g.met.V.Vault.settled c.loop-row.vault))
