use Rattle.std.proofs.Common.{◌∙◌, ◌++◌, List, ap, false, true}
use Rattle.std.specs.List.{All}
use Rattle.vault.specs.declared.answer.Head.{Head}
use Rattle.vault.specs.declared.fault.VaultFault.{VaultFault}
use Rattle.vault.specs.Calls.{has_grown}
use Rattle.vault.specs.Records.{is_one_of}
use Rattle.converse.specs.Causes.{IsExportFault, IsRefusedExport, IsRefusedRead}
use Rattle.converse.specs.Exported.{IsMeasured}
use Rattle.converse.proofs.Exporting.{heads_answered, items_measured, cause_still, refused_since, refused_there}
use Rattle.converse.proofs.Sifting.{sifted_intact, sifted_differing}
use Rattle.converse.proofs.TextWriting.{handed_as}
use Rattle.converse.proofs.texts.sift.Goals as goal

pub returns-clause-sifted : goal.returns-clause-sifted
returns-clause-sifted g c = λ rs are d h k.
    let k1 = c.in_ok-sift_heads.ensures.clean k in
    let found = c.in_ok-heads.ensures.done d h k1 in
    let sound = g.met.V.Vault.sound _ d found.held k1 in
    let same = c.as_slice.ensures.value ∙ (heads_answered _ _ _ _ found.answer).1 in
    let all = items_measured c.args.maildrop.now d c.as_slice.result.now sound same in
    let sifted = c.in_ok-sift_heads.ensures.sifted rs are d found.held k all in (
      (heads_answered _ _ _ _ found.answer).0,
      sifted.0 ∙ ap (λ (l : List Head). c.args.intact.now.items ++ l) (sifted_intact rs c.args.maildrop.now d c.as_slice.result.now sound same),
      sifted.1 ∙ ap (λ (l : List Head). c.args.differing.now.items ++ l) (sifted_differing rs c.args.maildrop.now d c.as_slice.result.now sound same),
    )

pub returns-in_err-sift_heads-clause-cause : goal.returns-in_err-sift_heads-clause-cause
returns-in_err-sift_heads-clause-cause g c =
    let faults = g.V.Vault.faults in
    let first = c.args.vault.now in
    let before = c.heads.new.self in
    let now = c.sift_heads.new.vault in
    let Read : VaultFault → Type 0 = IsRefusedRead g.V.Vault.holds g.V.Vault.is_clean faults before now (λ d. All (IsMeasured d) c.as_slice.result.now) in
    let Export : VaultFault → Type 0 = IsRefusedExport g.V.Vault.holds g.V.Vault.is_clean faults first now c.args.maildrop.now in
    handed_as c.from_residual-in_err-sift_heads.result _ (IsExportFault false false Export) c.from_residual-in_err-sift_heads.ensures.1
    (cause_still false false false false Read Export (λ e. e) (λ e. e)
    (λ e r d h k.
    let k1 = c.in_err-sift_heads.ensures.clean k in
    let found = c.in_ok-heads.ensures.done d h k1 in
    let sound = g.met.V.Vault.sound _ d found.held k1 in
    let same = c.as_slice.ensures.value ∙ (heads_answered _ _ _ _ found.answer).1 in
    refused_there (is_one_of c.args.maildrop.now d.maildrops) (has_grown (faults first) (faults now)) e
    (refused_since true (faults first) (faults before) (faults now) c.in_ok-heads.ensures.looks.counted.kept e
    (r d found.held k (items_measured c.args.maildrop.now d c.as_slice.result.now sound same))))
    _ c.in_err-sift_heads.ensures.cause)
