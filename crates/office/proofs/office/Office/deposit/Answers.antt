use Rattle.std.proofs.Common.{refl}
use Rattle.vault.specs.Calls.{IsDeposited}
use Rattle.office.specs.Events.{Deposit}
use Rattle.office.specs.VaultAnswers as by_vault
use Rattle.office.proofs.AfterEvents.{answered_after, committed_after}
use Rattle.office.proofs.Stopping.{new_mark}
use Rattle.office.proofs.VaultCalls.{deposit_kept, deposit_not_kept, no_fault}
use Rattle.office.proofs.office.Office.deposit.Goals as goal

pub returns-in-Ok : goal.returns-in-Ok
returns-in-Ok g c =
    let d = c.args.maildrop.now in
    let class = c.args.class.now in
    let id = c.args.id.now in
    rw c.deposited.ensures (committed_after g.V.Vault c.args.self.now _ (Deposit d class id c.args.text.now) by_vault.deposited
    (λ k Held r. IsDeposited Held k d class id c.in-Ok.kept r) c.deposit.result c.deposit.ensures.commits c.deposit.ensures.done (g.met.V.Vault.settled _)
    (λ After T st grown r did cause. deposit_kept After T st.keeps grown d class id c.args.text.now c.have_form.ensures.maildrop
    c.have_form.ensures.class c.have_form.ensures.id c.in-Ok.kept r c.in-Ok.ensures.ok
    (λ none. no_fault _ _ (c.in-Ok.ensures.empty.1 none)) (λ large. no_fault _ _ (c.in-Ok.ensures.too_large.1 large)) did cause)
    refl refl new_mark tt)

pub returns-in-Err : goal.returns-in-Err
returns-in-Err g c =
    let d = c.args.maildrop.now in
    let class = c.args.class.now in
    let id = c.args.id.now in
    rw c.not_kept.ensures (answered_after g.V.Vault c.args.self.now (Deposit d class id c.args.text.now) _ tt (g.met.V.Vault.settled _)
    (λ T st. deposit_not_kept T st.keeps _ d class id c.args.text.now c.have_form.ensures.maildrop c.have_form.ensures.class c.have_form.ensures.id
    c.in-Err.fault c.in-Err.ensures.empty c.in-Err.ensures.too_large))
