use Rattle.vault.specs.Changes.{without_keys, with_messages}
use Rattle.sqlvault.proofs.FrameLemmas.{passed, unbegun, met_whole, concluded_whole}
use Rattle.sqlvault.proofs.mail.remove.Goals as goal

pub returns-in_err-begin : goal.returns-in_err-begin
returns-in_err-begin g c = rw (passed c.from_residual.ensures.1) (met_whole _ _ c.in_err-begin.field-0.0 (unbegun c.in_err-begin.ensures))

pub returns : goal.returns
returns g c =
    concluded_whole (λ k. with_messages (without_keys c.args.maildrop.now c.args.keys.now k.messages) k)
    c.remove_all-removed.result c.conclude.result c.in_ok-begin.ensures c.remove_all-removed.ensures
    (λ k from to kept change. change k kept) c.conclude.ensures
