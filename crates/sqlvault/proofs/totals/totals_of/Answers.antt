use Rattle.std.proofs.Common.{◌<◌, ◌≤◌, length, arith, rules, ◌∙◌}
use Rattle.vault.specs.Plain.{capped_total}
use Rattle.sqlvault.proofs.TotalLemmas.{totals_next, mapped_all}
use Rattle.sqlvault.proofs.FrameLemmas.{not_ok, looks_self, looks_then, looks_own}
use Rattle.sqlvault.proofs.totals.totals_of.Goals as goal

pub loop-name-init : goal.loop-name-init
loop-name-init g c = (looks_self g.S.Store c.args.conn.now, λ k clean h. search rules)

pub loop-name-preserved : goal.loop-name-preserved
loop-name-preserved g c = (
  looks_then c.loop-name.invariant.0 c.in_ok-total.ensures.looks,
  λ k clean h.
      let i = c.loop-name.name-index in
      let lt : i < length c.args.names.now = omega (arith, c.loop-name-test.true) in
      let before = c.in_ok-total.ensures.looks.clean clean in
      let h1 = (c.loop-name.invariant.0.rests before k h).held in
      totals_next k c.args.names.now c.loop-name.totals.items c.push.new.self.items i
      c.name-item.result c.in_ok-total.total lt c.name-item.is
      (c.loop-name.invariant.1 k before h) (c.in_ok-total.ensures.total k clean h1)
      c.in_ok-push.ensures.items,
)

pub returns-in_err-total-clause-looks : goal.returns-in_err-total-clause-looks
returns-in_err-total-clause-looks g c =
    looks_own (λ own. absurd (not_ok c.from_residual.result _ c.from_residual.ensures.1 own))
    (looks_then c.loop-name.invariant.0 c.total_of.ensures.looks)

pub returns-in_err-push-clause-looks : goal.returns-in_err-push-clause-looks
returns-in_err-push-clause-looks g c =
    looks_own (λ _. tt) (looks_then c.loop-name.invariant.0 c.in_ok-total.ensures.looks)

pub returns-clause-looks : goal.returns-clause-looks
returns-clause-looks g c = c.loop-name.invariant.0

pub returns-clause-totals : goal.returns-clause-totals
returns-clause-totals g c k clean h =
    let all : length c.args.names.now ≤ c.loop-name.name-index = omega (arith, c.loop-name-test.false) in
    c.loop-name.invariant.1 k clean h
    ∙ mapped_all (capped_total k.messages) c.args.names.now c.loop-name.name-index all
