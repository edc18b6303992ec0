use Rattle.std.proofs.Common.{◌≡◌, ◌∙◌, arith, ap, true, false, Err}
use Rattle.std.specs.List as list
use Rattle.vault.specs.declared.answer.Total.{Total}
use Rattle.vault.specs.declared.fault.VaultFault.{VaultFault}
use Rattle.vault.specs.Calls.{has_grown}
use Rattle.vault.specs.Records.{is_one_of}
use Rattle.converse.specs.Causes.{IsExportFault, IsRefusedCheck, IsRefusedRead}
use Rattle.converse.specs.Checked.{AreKnown}
use Rattle.converse.proofs.Checking.{store_differs, store_whole, does_differ, differs_not, has_asked}
use Rattle.converse.proofs.Exporting.{cause_still, counts_on, look_refused, refused_since}
use Rattle.converse.proofs.Refusals.{refused_known, refused_of_since, totals_there}
use Rattle.converse.proofs.TextWriting.{handed_as}
use Rattle.converse.proofs.check_store.put_store.Goals as goal

pub returns-in-Ok-print_last-clause-told : goal.returns-in-Ok-print_last-clause-told
returns-in-Ok-print_last-clause-told g c = λ rs are d h k.
    let s = has_asked g.V.Vault.holds g.V.Vault.is_clean c.in_ok-totals.ensures.looks.clean c.in_ok-totals.ensures.done c.in_ok-policy.ensures.looks.clean c.in_ok-policy.ensures.done
    c.in_ok-tell_clerks.ensures.clean c.in_ok-tell_clerks.ensures.held c.in_ok-tell_clerks.ensures.told in
    let k3 = c.in_ok-tell_differing.ensures.clean k in
    let all = s.totals_are d h k3 in
    store_whole c.args.file.now d c.args.clerks.now rs c.as_slice.result.now c.as_slice-2.result.now c.as_slice-3.result.now c.len-rules.result
    c.args.text.now.items c.print_front.new.out.items c.tell_clerks.new.text.items c.tell_differing.new.text.items c.print_last.new.out.items
    (c.as_slice.ensures.value ∙ all) (c.as_slice-2.ensures.value ∙ all) (c.as_slice-3.ensures.value ∙ all) (c.len-rules.ensures.value ∙ s.rules_are d h k3)
    c.in-Ok.ensures (s.clerks_are d h k3) (c.in_ok-tell_differing.ensures.told rs are d (s.held d h k3) k) (omega arith) c.in-Ok-print_last.ensures

pub returns-in-Ok-print_last-clause-intact : goal.returns-in-Ok-print_last-clause-intact
returns-in-Ok-print_last-clause-intact g c = λ rs are d h k.
    let s = has_asked g.V.Vault.holds g.V.Vault.is_clean c.in_ok-totals.ensures.looks.clean c.in_ok-totals.ensures.done c.in_ok-policy.ensures.looks.clean c.in_ok-policy.ensures.done
    c.in_ok-tell_clerks.ensures.clean c.in_ok-tell_clerks.ensures.held c.in_ok-tell_clerks.ensures.told in
    let k3 = c.in_ok-tell_differing.ensures.clean k in
    differs_not rs d c.as_slice-2.result.now c.tell_clerks.new.text.items c.tell_differing.new.text.items
    (c.as_slice-2.ensures.value ∙ s.totals_are d h k3) (c.in_ok-tell_differing.ensures.told rs are d (s.held d h k3) k) (omega arith)

pub returns-then-after-before-clause-told : goal.returns-then-after-before-clause-told
returns-then-after-before-clause-told g c = λ rs are d h k.
    let s = has_asked g.V.Vault.holds g.V.Vault.is_clean c.in_ok-totals.ensures.looks.clean c.in_ok-totals.ensures.done c.in_ok-policy.ensures.looks.clean c.in_ok-policy.ensures.done
    c.in_ok-tell_clerks.ensures.clean c.in_ok-tell_clerks.ensures.held c.in_ok-tell_clerks.ensures.told in
    let k3 = c.in_ok-tell_differing.ensures.clean k in
    store_differs c.args.file.now d c.args.clerks.now rs c.as_slice.result.now c.as_slice-2.result.now
    c.args.text.now.items c.print_front.new.out.items c.tell_clerks.new.text.items c.tell_differing.new.text.items
    (c.as_slice.ensures.value ∙ (s.totals_are d h k3)) (c.as_slice-2.ensures.value ∙ (s.totals_are d h k3)) c.in-Ok.ensures
    (s.clerks_are d h k3) (c.in_ok-tell_differing.ensures.told rs are d (s.held d h k3) k) (omega arith)

pub returns-then-after-before-clause-intact : goal.returns-then-after-before-clause-intact
returns-then-after-before-clause-intact g c = λ rs are d h k.
    let s = has_asked g.V.Vault.holds g.V.Vault.is_clean c.in_ok-totals.ensures.looks.clean c.in_ok-totals.ensures.done c.in_ok-policy.ensures.looks.clean c.in_ok-policy.ensures.done
    c.in_ok-tell_clerks.ensures.clean c.in_ok-tell_clerks.ensures.held c.in_ok-tell_clerks.ensures.told in
    let k3 = c.in_ok-tell_differing.ensures.clean k in
    does_differ rs d c.as_slice-2.result.now c.tell_clerks.new.text.items c.tell_differing.new.text.items
    (c.as_slice-2.ensures.value ∙ s.totals_are d h k3) (c.in_ok-tell_differing.ensures.told rs are d (s.held d h k3) k) (omega arith)

pub returns-in_err-tell_clerks-clause-cause : goal.returns-in_err-tell_clerks-clause-cause
returns-in_err-tell_clerks-clause-cause g c =
    let faults = g.V.Vault.faults in
    let t = c.in_err-tell_clerks.ensures in
    let first = c.args.vault.now in
    let before = c.policy.new.self in
    let now = c.tell_clerks.new.vault in
    let Late : VaultFault → Type 0 = IsRefusedCheck g.V.Vault.holds g.V.Vault.is_clean faults before now (AreKnown c.args.clerks.now) in
    let All : VaultFault → Type 0 = IsRefusedCheck g.V.Vault.holds g.V.Vault.is_clean faults first now (AreKnown c.args.clerks.now) in
    handed_as c.from_residual-in_err-tell_clerks.result _ (IsExportFault false false All) c.from_residual-in_err-tell_clerks.ensures.1
    (cause_still false false false false Late All (λ e. e) (λ e. e) (λ e r d h k.
    let k2 = t.clean k in
    let k1 = c.in_ok-policy.ensures.looks.clean k2 in
    let second = c.in_ok-policy.ensures.done d (c.in_ok-totals.ensures.done d h k1).held k2 in
    refused_of_since (AreKnown c.args.clerks.now d) (AreKnown c.args.clerks.now d) (λ all. all) (faults first) (faults before) (faults now)
    (counts_on _ _ _ c.in_ok-totals.ensures.looks.counted.kept c.in_ok-policy.ensures.looks.counted.kept) e (r d second.held k))
    _ t.cause)

pub returns-in_err-tell_differing-clause-cause : goal.returns-in_err-tell_differing-clause-cause
returns-in_err-tell_differing-clause-cause g c =
    let faults = g.V.Vault.faults in
    let t = c.in_err-tell_differing.ensures in
    let before = c.tell_clerks.new.vault in
    let now = c.tell_differing.new.vault in
    let s = has_asked g.V.Vault.holds g.V.Vault.is_clean c.in_ok-totals.ensures.looks.clean c.in_ok-totals.ensures.done c.in_ok-policy.ensures.looks.clean c.in_ok-policy.ensures.done
    c.in_ok-tell_clerks.ensures.clean c.in_ok-tell_clerks.ensures.held c.in_ok-tell_clerks.ensures.told in
    let Read : VaultFault → Type 0 =
    IsRefusedRead g.V.Vault.holds g.V.Vault.is_clean faults before now (λ d. list.All (λ (x : Total). is_one_of x.maildrop d.maildrops ≡ true) c.as_slice-2.result.now) in
    let All : VaultFault → Type 0 = IsRefusedCheck g.V.Vault.holds g.V.Vault.is_clean faults c.args.vault.now now (AreKnown c.args.clerks.now) in
    handed_as c.from_residual-in_err-tell_differing.result _ (IsExportFault false false All) c.from_residual-in_err-tell_differing.ensures.1
    (cause_still false false false false Read All (λ e. e) (λ e. e)
    (λ e r d h k.
    let k3 = t.clean k in
    let there = totals_there d c.as_slice-2.result.now (c.as_slice-2.ensures.value ∙ s.totals_are d h k3) in
    let early = counts_on _ _ _ (counts_on _ _ _ c.in_ok-totals.ensures.looks.counted.kept c.in_ok-policy.ensures.looks.counted.kept) c.in_ok-tell_clerks.ensures.counted in
    refused_known (AreKnown c.args.clerks.now d) (has_grown (faults c.args.vault.now) (faults now)) e
    (refused_since true (faults c.args.vault.now) (faults before) (faults now) early e (r d (s.held d h k3) k there)))
    _ t.cause)

pub returns-in_err-totals-clause-cause : goal.returns-in_err-totals-clause-cause
returns-in_err-totals-clause-cause g c =
    let All : VaultFault → Type 0 = IsRefusedCheck g.V.Vault.holds g.V.Vault.is_clean g.V.Vault.faults c.args.vault.now c.maildrops.new.self (AreKnown c.args.clerks.now) in
    handed_as c.from_residual.result _ (IsExportFault false false All) c.from_residual.ensures.1
    (λ d h k. refused_known (AreKnown c.args.clerks.now d) _ _ (look_refused true _ _ _ (c.in_err-totals.ensures.done d h k).answer (λ e. c.in_err-totals.ensures.looks.counted.cause (ap Err e))))

pub returns-in_err-policy-clause-cause : goal.returns-in_err-policy-clause-cause
returns-in_err-policy-clause-cause g c =
    let n = g.V.Vault.faults in
    let All : VaultFault → Type 0 = IsRefusedCheck g.V.Vault.holds g.V.Vault.is_clean n c.args.vault.now c.policy.new.self (AreKnown c.args.clerks.now) in
    handed_as c.from_residual-in_err-policy.result _ (IsExportFault false false All) c.from_residual-in_err-policy.ensures.1
    (λ d h k.
    let k1 = c.in_err-policy.ensures.looks.clean k in
    let one = c.in_ok-totals.ensures.done d h k1 in
    refused_known (AreKnown c.args.clerks.now d) _ _
    (refused_since true (n c.args.vault.now) (n c.maildrops.new.self) (n c.policy.new.self) c.in_ok-totals.ensures.looks.counted.kept _
    (look_refused true _ _ _ (c.in_err-policy.ensures.done d one.held k).answer (λ e. c.in_err-policy.ensures.looks.counted.cause (ap Err e)))))
