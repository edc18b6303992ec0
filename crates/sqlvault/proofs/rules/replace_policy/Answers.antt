use Rattle.std.proofs.Common.{subst}
use Rattle.sqlvault.specs.Frame.{Writes}
use Rattle.sqlvault.specs.Rules.{SetsGroups, SetsRules, SetsPolicy}
use Rattle.sqlvault.proofs.HoldsLemmas.{any_ok}
use Rattle.sqlvault.proofs.FrameLemmas.{writes_then, writes_failed, passed}
use Rattle.sqlvault.proofs.rules.replace_policy.Goals as goal

pub returns-clause-written : goal.returns-clause-written
returns-clause-written g c =
    let p = c.args.policy.now in
    let rules = subst (λ rs. Writes g.S.Store c.replace_groups.new.conn c.replace_rules.new.conn
    (λ (_ : Unit {0}). SetsRules rs) c.replace_rules.result) c.rules.ensures.value
    c.replace_rules.ensures in
    writes_then (λ _. SetsGroups p.groups) (SetsRules p.rules) (SetsPolicy p) tt
    c.replace_rules.result c.in_ok-replace_groups.ensures rules (λ from mid to a b. (mid, a, b))

pub returns-clause-sound : goal.returns-clause-sound
returns-clause-sound g c = any_ok _ c.replace_rules.result c.rules.ensures.sound

pub returns-in_err-replace_groups-clause-written : goal.returns-in_err-replace_groups-clause-written
returns-in_err-replace_groups-clause-written g c = rw (passed c.from_residual.ensures.1) (writes_failed c.in_err-replace_groups.ensures)
