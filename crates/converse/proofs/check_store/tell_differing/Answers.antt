use Rattle.std.proofs.Common.{◌≡◌, ◌∙◌, ◌++◌, List, Some, ap, subst, take_all, true, false}
use Rattle.std.specs.List.{All, flat_map}
use Rattle.vault.specs.declared.answer.Total.{Total}
use Rattle.vault.specs.declared.fault.VaultFault.{VaultFault}
use Rattle.vault.specs.Calls.{has_grown}
use Rattle.vault.specs.Records.{is_one_of}
use Rattle.converse.specs.Causes.{IsExportFault, IsRefused, IsRefusedExport, IsRefusedRead}
use Rattle.converse.specs.Texts.{differing_in, differs_line}
use Rattle.converse.proofs.Checking.{told_more}
use Rattle.converse.proofs.Exporting.{at_index, cause_still, counts_on, refused_since}
use Rattle.converse.proofs.TextWriting.{handed_as}
use Rattle.converse.proofs.check_store.tell_differing.Goals as goal

pub loop-total-preserved : goal.loop-total-preserved
loop-total-preserved g c =
    let s = c.loop-total.invariant in
    let t = c.in_ok-tell_maildrop.ensures in
    record {
      clean = λ k. s.clean (t.clean k);
      held = λ d h k. t.held d (s.held d h (t.clean k)) k;
      read = counts_on _ _ _ s.read t.counted;
      so = λ d h k rs are.
          told_more (λ (x : Total). flat_map differs_line (differing_in rs x.maildrop d)) c.args.totals.now c.loop-total.total-index _
          (Some c.args.text.now.items) (Some c.loop-total.text.items) (Some c.tell_maildrop.new.text.items) c.loop-total-test.true c.total-item.is
          (s.so d h (t.clean k) rs are) (t.told rs are d (s.held d h (t.clean k)) k);
    }

pub returns-clause-told : goal.returns-clause-told
returns-clause-told g c = λ rs are d h k.
    c.loop-total.invariant.so d h k rs are
    ∙ ap (λ (l : List Total). c.args.text.now.items ++ flat_map (λ (x : Total). flat_map differs_line (differing_in rs x.maildrop d)) l)
    (take_all c.loop-total.total-index c.args.totals.now c.loop-total-test.false)

pub returns-in_err-tell_maildrop-clause-cause : goal.returns-in_err-tell_maildrop-clause-cause
returns-in_err-tell_maildrop-clause-cause g c =
    let faults = g.V.Vault.faults in
    let t = c.in_err-tell_maildrop.ensures in
    let first = c.args.vault.now in
    let before = c.loop-total.vault in
    let now = c.tell_maildrop.new.vault in
    let One : VaultFault → Type 0 = IsRefusedExport g.V.Vault.holds g.V.Vault.is_clean faults before now c.total-item.result.maildrop in
    let Each : VaultFault → Type 0 = IsRefusedRead g.V.Vault.holds g.V.Vault.is_clean faults first now (λ d. All (λ (x : Total). is_one_of x.maildrop d.maildrops ≡ true) c.args.totals.now) in
    handed_as c.from_residual.result _ (IsExportFault false false Each) c.from_residual.ensures.1
    (cause_still false false false false One Each (λ e. e) (λ e. e)
    (λ e r d h k all. refused_since true (faults first) (faults before) (faults now) c.loop-total.invariant.read e
    (subst (λ b. IsRefused b (has_grown (faults before) (faults now)) e)
    (at_index (λ (x : Total). is_one_of x.maildrop d.maildrops ≡ true) c.args.totals.now c.loop-total.total-index _ c.loop-total-test.true c.total-item.is all)
    (r d (c.loop-total.invariant.held d h (t.clean k)) k)))
    _ t.cause)
