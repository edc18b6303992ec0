use Rattle.std.proofs.Common.{◌∙◌, ◌++◌, List, ap, not, sym, take_all, true, false}
use Rattle.std.specs.List.{All}
use Rattle.std.specs.Prelude.{filter}
use Rattle.vault.specs.declared.answer.Head.{Head}
use Rattle.vault.specs.declared.fault.VaultFault.{VaultFault}
use Rattle.converse.specs.Exported.{IsMeasured}
use Rattle.converse.specs.Texts.{has_intact}
use Rattle.converse.specs.Causes.{IsExportFault, IsRefusedRead}
use Rattle.converse.proofs.Exporting.{counts_on, at_index, cause_still, refused_since}
use Rattle.converse.proofs.TextWriting.{handed_as}
use Rattle.converse.proofs.Sifting.{sifted_more}
use Rattle.converse.proofs.texts.sift_heads.Goals as goal

pub loop-head-preserved : goal.loop-head-preserved
loop-head-preserved g c =
    let s = c.loop-head.invariant in
    let t = c.in_ok-found.ensures in
    record {
      clean = λ k. s.clean (t.clean k);
      held = λ d h k. t.held d (s.held d h (t.clean k)) k;
      read = counts_on _ _ _ s.read t.counted;
      so = λ d h k rs are all.
          let m = at_index (IsMeasured d) c.args.heads.now c.loop-head.head-index _ c.loop-head-test.true c.head-item.is all in
          let found = t.told rs are d (s.held d h (t.clean k)) k m in
          let before = s.so d h (t.clean k) rs are all in (
            sifted_more (has_intact rs c.args.maildrop.now d) c.args.heads.now c.loop-head.head-index c.head-item.result _ _ _ c.in_ok-found.found
                c.loop-head-test.true c.head-item.is (sym found) before.0 c.in_ok-add_sifted.ensures.intact,
            sifted_more (λ (h : Head). not (has_intact rs c.args.maildrop.now d h)) c.args.heads.now c.loop-head.head-index c.head-item.result _ _ _ (not c.in_ok-found.found)
                c.loop-head-test.true c.head-item.is (ap not (sym found)) before.1 c.in_ok-add_sifted.ensures.differing,
          );
    }

pub returns-clause-sifted : goal.returns-clause-sifted
returns-clause-sifted g c = λ rs are d h k all.
    let done = c.loop-head.invariant.so d h k rs are all in
    let whole = take_all c.loop-head.head-index c.args.heads.now c.loop-head-test.false in (
      done.0 ∙ ap (λ (l : List Head). c.args.intact.now.items ++ filter (has_intact rs c.args.maildrop.now d) l) whole,
      done.1 ∙ ap (λ (l : List Head). c.args.differing.now.items ++ filter (λ (x : Head). not (has_intact rs c.args.maildrop.now d x)) l) whole,
    )

pub returns-in_err-found-clause-cause : goal.returns-in_err-found-clause-cause
returns-in_err-found-clause-cause g c =
    let faults = g.V.Vault.faults in
    let t = c.in_err-found.ensures in
    let first = c.args.vault.now in
    let before = c.loop-head.vault in
    let now = c.is_intact.new.vault in
    let One : VaultFault → Type 0 = IsRefusedRead g.V.Vault.holds g.V.Vault.is_clean faults before now (λ d. IsMeasured d c.head-item.result) in
    let Each : VaultFault → Type 0 = IsRefusedRead g.V.Vault.holds g.V.Vault.is_clean faults first now (λ d. All (IsMeasured d) c.args.heads.now) in
    handed_as c.from_residual.result _ (IsExportFault false false Each) c.from_residual.ensures.1
    (cause_still false false false false One Each (λ e. e) (λ e. e)
    (λ e r d h k all. refused_since true (faults first) (faults before) (faults now) c.loop-head.invariant.read e
    (r d (c.loop-head.invariant.held d h (t.clean k)) k (at_index (IsMeasured d) c.args.heads.now c.loop-head.head-index _ c.loop-head-test.true c.head-item.is all)))
    _ t.cause)
