-- A deposit is refused, or accepted, or memory for it is refused.
use Rattle.std.proofs.Common.{◌∙◌, sym, rules}
use Rattle.vault.specs.contracts.plain.PlainVault.{the_view}
use Rattle.vault.specs.declared.fault.VaultFault.TheVariants as fault
use Rattle.vault.proofs.DepositLemmas.{deposit_refused, deposit_accepted, deposit_unkept, deposit_left, judged_by, refused_as, ok_new}
use Rattle.vault.proofs.StopLemmas.{commits_deposited}
use Rattle.vault.proofs.plain.PlainVaultVault.deposit.Goals as goal

pub returns-in_err-uid-clause-done : goal.returns-in_err-uid-clause-done
returns-in_err-uid-clause-done c = λ b held clean.
    let asked = c.ask-asked.ensures in
    let judged = judged_by c.args.maildrop.now c.args.class.now c.args.id.now c.args.text.now c.ask-asked.result.maildrop c.ask-asked.result.class c.ask-asked.result.id
    c.deref.result.now c.deref-2.result.now c.deref-3.result.now (the_view c.self.inside) _ asked.maildrop asked.class asked.id
    c.deref.ensures.value c.deref-2.ensures.value c.deref-3.ensures.value (sym c.in_err-uid.was ∙ c.judge.ensures c.args.text.now asked.digest) in
    rw (refused_as c.from_residual.result c.in_err-uid.field-0.0 c.from_residual.ensures.1)
    (deposit_refused c.args.maildrop.now c.args.class.now c.args.id.now c.args.text.now (the_view c.self.inside) _ b c.in_err-uid.field-0.0 c.self.view_is held judged)

pub returns-in_err-accept-in-New-clause-done : goal.returns-in_err-accept-in-New-clause-done
returns-in_err-accept-in-New-clause-done c = λ b held clean.
    deposit_unkept c.args.maildrop.now c.args.class.now c.args.id.now c.args.text.now (the_view c.self.inside) _ b _ _ _ c.self.view_is held
    c.in_err-accept-in-New.ensures.messages c.in_err-accept-in-New.ensures.deposits
    (refused_as c.from_residual-in_err-accept-in-New.result fault.NoMemory c.from_residual-in_err-accept-in-New.ensures.1)

pub returns-in_ok-accept-in-New-clause-done : goal.returns-in_ok-accept-in-New-clause-done
returns-in_ok-accept-in-New-clause-done c = λ b held clean.
    let asked = c.ask-asked.ensures in
    let judged = judged_by c.args.maildrop.now c.args.class.now c.args.id.now c.args.text.now c.ask-asked.result.maildrop c.ask-asked.result.class c.ask-asked.result.id
    c.deref.result.now c.deref-2.result.now c.deref-3.result.now (the_view c.self.inside) _ asked.maildrop asked.class asked.id
    c.deref.ensures.value c.deref-2.ensures.value c.deref-3.ensures.value
    (sym (c.in_ok-uid.was ∙ ok_new c.in_ok-uid.field-0 c.in-New.uid c.in-New.is) ∙ c.judge.ensures c.args.text.now asked.digest) in
    deposit_accepted c.args.maildrop.now c.args.class.now c.args.id.now c.args.text.now (the_view c.self.inside) _ b _ c.in-New.uid c.self.view_is held
    (record { maildrop = asked.maildrop_form; class_name = asked.class_form; deposit_id = asked.id_form; mail = asked.text_form; digest = asked.digest_form })
    judged
    (deposit_left c.args.maildrop.now c.args.class.now c.args.id.now c.args.text.now c.ask-asked.result.maildrop c.ask-asked.result.class c.ask-asked.result.id
    c.in-New.uid.k _ _ (the_view c.self.inside) asked.maildrop asked.class asked.id c.in_ok-accept-in-New.ensures.messages c.in_ok-accept-in-New.ensures.deposits)

pub returns-in_err-uid-clause-commits : goal.returns-in_err-uid-clause-commits
returns-in_err-uid-clause-commits c =
    commits_deposited _ _ c.args.maildrop.now c.args.class.now c.args.id.now c.args.text.now _
    (search rules) (returns-in_err-uid-clause-done c)

pub returns-in_err-accept-in-New-clause-commits : goal.returns-in_err-accept-in-New-clause-commits
returns-in_err-accept-in-New-clause-commits c =
    commits_deposited _ _ c.args.maildrop.now c.args.class.now c.args.id.now c.args.text.now _
    (search rules) (returns-in_err-accept-in-New-clause-done c)

pub returns-in_ok-accept-in-New-clause-commits : goal.returns-in_ok-accept-in-New-clause-commits
returns-in_ok-accept-in-New-clause-commits c =
    commits_deposited _ _ c.args.maildrop.now c.args.class.now c.args.id.now c.args.text.now _
    (search rules) (returns-in_ok-accept-in-New-clause-done c)
