use Rattle.vault.specs.Changes.{with_policy}
use Rattle.sqlvault.proofs.FrameLemmas.{passed, unbegun, met_whole, writes_given, concluded_whole}
use Rattle.sqlvault.proofs.RuleLemmas.{keeps_set}
use Rattle.sqlvault.proofs.rules.set_policy.Goals as goal

pub returns-in_err-begin : goal.returns-in_err-begin
returns-in_err-begin g c = rw (passed c.from_residual.ensures.1) (met_whole _ _ c.in_err-begin.field-0.0 (unbegun c.in_err-begin.ensures))

pub returns : goal.returns
returns g c =
    concluded_whole (with_policy c.args.policy.now) c.replace_policy-replaced.result c.conclude.result
    c.in_ok-begin.ensures (writes_given c.replace_policy-replaced.result c.replace_policy-replaced.ensures.sound
    c.replace_policy-replaced.ensures.written)
    (λ k from to kept change. keeps_set c.args.policy.now from to k change.0 change.1 kept) c.conclude.ensures
