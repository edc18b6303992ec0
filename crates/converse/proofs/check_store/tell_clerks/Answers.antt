use Rattle.std.proofs.Common.{◌≡◌, Some, true, false}
use Rattle.std.specs.Prelude.{is_some}
use Rattle.vault.specs.declared.fault.VaultFault.{VaultFault}
use Rattle.vault.specs.Records.{credential_in}
use Rattle.converse.specs.Causes.{IsExportFault, IsRefusedCheck}
use Rattle.converse.specs.Checked.{clerk_line, AreKnown}
use Rattle.converse.proofs.Checking.{told_more}
use Rattle.converse.proofs.Exporting.{all_more, at_index, cause_still, counts_on}
use Rattle.converse.proofs.Refusals.{refused_of_since}
use Rattle.converse.proofs.TextWriting.{handed_as}
use Rattle.converse.proofs.check_store.tell_clerks.Goals as goal

pub loop-name-preserved : goal.loop-name-preserved
loop-name-preserved g c =
    let s = c.loop-name.invariant in
    let t = c.in_ok-tell_clerk.ensures in
    record {
      clean = λ k. s.clean (t.clean k);
      held = λ d h k. t.held d (s.held d h (t.clean k)) k;
      read = counts_on _ _ _ s.read t.counted;
      so = λ d h k. (
        told_more (clerk_line d.clerks) c.args.clerks.now c.loop-name.name-index _ (Some c.args.text.now.items) (Some c.loop-name.text.items)
            (Some c.tell_clerk.new.text.items) c.loop-name-test.true c.name-item.is
            (s.so d h (t.clean k)).0 (t.told d (s.held d h (t.clean k)) k),
        all_more (λ name. is_some (credential_in name d.clerks) ≡ true) c.args.clerks.now c.loop-name.name-index _ c.loop-name-test.true c.name-item.is
            (s.so d h (t.clean k)).1 (t.known d (s.held d h (t.clean k)) k),
      );
    }

pub returns-in_err-tell_clerk-clause-cause : goal.returns-in_err-tell_clerk-clause-cause
returns-in_err-tell_clerk-clause-cause g c =
    let faults = g.V.Vault.faults in
    let t = c.in_err-tell_clerk.ensures in
    let first = c.args.vault.now in
    let before = c.loop-name.vault in
    let now = c.tell_clerk.new.vault in
    let One : VaultFault → Type 0 = IsRefusedCheck g.V.Vault.holds g.V.Vault.is_clean faults before now (λ d. is_some (credential_in c.name-item.result d.clerks) ≡ true) in
    let All : VaultFault → Type 0 = IsRefusedCheck g.V.Vault.holds g.V.Vault.is_clean faults first now (AreKnown c.args.clerks.now) in
    handed_as c.from_residual.result _ (IsExportFault false false All) c.from_residual.ensures.1
    (cause_still false false false false One All (λ e. e) (λ e. e)
    (λ e r d h k. refused_of_since (is_some (credential_in c.name-item.result d.clerks) ≡ true) (AreKnown c.args.clerks.now d)
    (at_index (λ name. is_some (credential_in name d.clerks) ≡ true) c.args.clerks.now c.loop-name.name-index _ c.loop-name-test.true c.name-item.is)
    (faults first) (faults before) (faults now) c.loop-name.invariant.read e (r d (c.loop-name.invariant.held d h (t.clean k)) k))
    _ t.cause)
