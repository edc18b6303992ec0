use Rattle.std.proofs.Common.{Ok}
use Rattle.vault.specs.Changes.{with_deposit}
use Rattle.sqlvault.specs.Deposits.{IsStored, message_of}
use Rattle.sqlvault.proofs.HoldsLemmas.{met}
use Rattle.sqlvault.proofs.FrameLemmas.{passed, unbegun, rest, begins_clean, concluded_turns, concluded_answer}
use Rattle.sqlvault.proofs.deposit.KeptLemmas.{kept_after}
use Rattle.sqlvault.proofs.deposit.store.Goals as goal

pub returns-in_err-begin-clause-clean : goal.returns-in_err-begin-clause-clean
returns-in_err-begin-clause-clean g c = (unbegun c.in_err-begin.ensures).clean

pub returns-in_err-begin-clause-answer : goal.returns-in_err-begin-clause-answer
returns-in_err-begin-clause-answer g c = rw (passed c.from_residual.ensures.1) (met (Ok tt) c.in_err-begin.field-0.0)

pub returns-in_err-begin-clause-stored : goal.returns-in_err-begin-clause-stored
returns-in_err-begin-clause-stored g c = rw (passed c.from_residual.ensures.1) (λ k clean h a. rest ((unbegun c.in_err-begin.ensures).rests clean k h))

pub returns-clause-clean : goal.returns-clause-clean
returns-clause-clean g c clean =
    begins_clean c.begin.ensures (c.put_deposit-put.ensures.clean (c.conclude.ensures.clean clean))

pub returns-clause-answer : goal.returns-clause-answer
returns-clause-answer g c = concluded_answer c.put_deposit-put.result c.conclude.result c.conclude.ensures

pub returns-clause-stored : goal.returns-clause-stored
returns-clause-stored g c k clean h a =
    let r = c.args.receipt.now in
    let text = c.args.text.now in
    concluded_turns (IsStored r text k) c.put_deposit-put.result c.conclude.result k
    c.in_ok-begin.ensures c.put_deposit-put.ensures
    (λ from to keeps puts. (
      with_deposit puts.2.0 (message_of r text) r k,
      kept_after from puts.0 to k r text keeps a puts.1 puts.2,
      λ Held held. (puts.2.0, held),
    ))
    c.conclude.ensures clean h
