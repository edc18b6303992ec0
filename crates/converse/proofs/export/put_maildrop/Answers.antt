use Rattle.std.proofs.Common.{◌≡◌, ◌∙◌, rules, refl, sym, ap, subst, inl, inr, false, true≢false, List, length, ◌==◌}
use Rattle.std.specs.List.{All}
use Rattle.vault.specs.declared.answer.Head.{Head}
use Rattle.vault.specs.declared.fault.VaultFault.{VaultFault}
use Rattle.vault.specs.Calls.{has_grown}
use Rattle.converse.specs.Causes.{IsExportFault, IsRefusedExport, IsRefusedRead}
use Rattle.converse.specs.Streams.{Writes, WritesPart, writes_failed}
use Rattle.converse.specs.Exported.{files_of, IsMeasured}
use Rattle.converse.specs.Texts.{against, differing_in}
use Rattle.converse.proofs.ExportLemmas.{has_sifted, put_whole, put_first, report_told, refused_export, puts_ill, puts_none, puts_none_at}
use Rattle.converse.proofs.Exporting.{takes_whole, cause_still}
use Rattle.converse.proofs.Sifting.{none_of}
use Rattle.converse.proofs.TextWriting.{handed_as}
use Rattle.converse.proofs.export.put_maildrop.Goals as goal

pub returns-in_err-marks-clause-puts : goal.returns-in_err-marks-clause-puts
returns-in_err-marks-clause-puts g c = puts_none _ _ _ _ _ _ _ _ _ c.from_residual.result (search rules) (search rules)

pub returns-in_err-sift-clause-puts : goal.returns-in_err-sift-clause-puts
returns-in_err-sift-clause-puts g c =
    let Export : VaultFault → Type 0 = IsRefusedExport g.V.Vault.holds g.V.Vault.is_clean g.V.Vault.faults c.args.vault.now c.sift.new.vault c.args.maildrop.now in
    puts_none_at _ _ _ _ _ _ _ _ _ c.from_residual-in_err-sift.result _ c.from_residual-in_err-sift.ensures.1
    (cause_still false _ false _ Export Export (λ e. absurd (true≢false (sym e))) (λ e. absurd (true≢false (sym e))) (λ e x. x) _ c.in_err-sift.ensures.cause)

pub returns-in_err-report-clause-puts : goal.returns-in_err-report-clause-puts
returns-in_err-report-clause-puts g c =
    let Why = IsExportFault (has_grown (g.F.Folder.faults c.args.folder.now) (g.F.Folder.faults c.args.folder.now)) (writes_failed (g.W.Sink.seen c.args.out.now) (g.W.Sink.seen c.args.out.now))
    (IsRefusedExport g.V.Vault.holds g.V.Vault.is_clean g.V.Vault.faults c.args.vault.now c.sift.new.vault c.args.maildrop.now) in
    puts_none_at _ _ _ _ _ _ _ _ _ c.from_residual-in_err-report.result _ c.from_residual-in_err-report.ensures.1 (subst Why (sym c.in_err-report.ensures.memory) tt)

pub returns-in_err-put_messages-clause-puts : goal.returns-in_err-put_messages-clause-puts
returns-in_err-put_messages-clause-puts g c =
    let faults = g.V.Vault.faults in
    let now = c.put_messages.new.vault in
    let put = has_grown (g.F.Folder.faults c.args.folder.now) (g.F.Folder.faults c.put_messages.new.folder) in
    let written = writes_failed (g.W.Sink.seen c.args.out.now) (g.W.Sink.seen c.args.out.now) in
    let Read : VaultFault → Type 0 = IsRefusedRead g.V.Vault.holds g.V.Vault.is_clean faults c.sift.new.vault now (λ d. All (IsMeasured d) c.as_slice-2.result.now) in
    let Refused : VaultFault → Type 0 = IsRefusedExport g.V.Vault.holds g.V.Vault.is_clean faults c.args.vault.now now c.args.maildrop.now in
    let t = c.in_err-put_messages.ensures in
    let s = has_sifted g.met.V.Vault.sound t.clean c.in_ok-sift.ensures.held (c.in_ok-sift.ensures.sifted (against c.args.texts.now) c.in_ok-marks.ensures)
    c.as_slice-2.ensures.value c.as_slice.ensures.value c.new-intact.ensures.items c.new-differing.ensures.items in
    let r = c.from_residual-in_err-put_messages in
    puts_ill _ _ _ _ _ _ _ _ _ _ _ r.result (search rules)
    (handed_as r.result _ (IsExportFault put written Refused) r.ensures.1
    (cause_still put put false written Read Refused (λ e. e) (λ e. absurd (true≢false (sym e))) (refused_export s faults c.in_ok-sift.ensures.counted) _ t.cause))
    (put_first s (g.F.Folder.files c.args.folder.now) (g.F.Folder.files c.put_messages.new.folder) t.part) (inl refl) (inl refl)

pub returns-in_err-write_text-clause-puts : goal.returns-in_err-write_text-clause-puts
returns-in_err-write_text-clause-puts g c =
    let s = has_sifted g.met.V.Vault.sound c.in_ok-put_messages.ensures.clean c.in_ok-sift.ensures.held (c.in_ok-sift.ensures.sifted (against c.args.texts.now) c.in_ok-marks.ensures)
    c.as_slice-2.ensures.value c.as_slice.ensures.value c.new-intact.ensures.items c.new-differing.ensures.items in
    let count : c.len.result ≡ length c.sift.new.intact.items = search rules in
    let taken = put_whole s (g.F.Folder.files c.args.folder.now) (g.F.Folder.files c.put_messages.new.folder) c.in_ok-put_messages.ensures.whole in
    let report = report_told s c.len.result (count ∙ ap (λ (l : List Head). length l) (sym c.as_slice-2.ensures.value)) c.as_slice-3.ensures.value c.in_ok-report.ensures.told in
    puts_ill _ _ _ _ _ _ _ _ _ _ _ c.from_residual-in_err-write_text.result (search rules) (search rules)
    (λ d h k. takes_whole _ _ (files_of (against c.args.texts.now) c.args.maildrop.now d) (taken d h k))
    (inr (λ d h k. (taken d h k, subst (WritesPart (g.W.Sink.seen c.args.out.now) (g.W.Sink.seen c.write_text.new.out)) (report d h k) c.in_err-write_text.ensures.part)))
    (inr (c.in_ok-put_messages.ensures.settled refl))

pub returns-clause-puts : goal.returns-clause-puts
returns-clause-puts g c =
    let t = c.in_ok-put_messages.ensures in
    let s = has_sifted g.met.V.Vault.sound t.clean c.in_ok-sift.ensures.held (c.in_ok-sift.ensures.sifted (against c.args.texts.now) c.in_ok-marks.ensures)
    c.as_slice-2.ensures.value c.as_slice.ensures.value c.new-intact.ensures.items c.new-differing.ensures.items in
    let count : c.len.result ≡ length c.sift.new.intact.items = search rules in
    let empty : c.is_empty.result ≡ (length c.sift.new.differing.items == 0) = search rules in
    let taken = put_whole s (g.F.Folder.files c.args.folder.now) (g.F.Folder.files c.put_messages.new.folder) t.whole in
    let report = report_told s c.len.result (count ∙ ap (λ (l : List Head). length l) (sym c.as_slice-2.ensures.value)) c.as_slice-3.ensures.value c.in_ok-report.ensures.told in
    let w = c.in_ok-write_text.ensures in
    let was = g.W.Sink.seen c.args.out.now in
    let is = g.W.Sink.seen c.write_text.new.out in
    record {
      whole = taken;
      told = λ d h k. subst (Writes was is) (report d h k) w.ok;
      intact = λ d h k. none_of c.is_empty.result (differing_in (against c.args.texts.now) c.args.maildrop.now d) c.as_slice.result.now
          (s.are d h k).other (empty ∙ ap (λ (l : List Head). length l == 0) (sym c.as_slice.ensures.value));
      settled = λ _. t.settled refl;
      flushed = w.flushed;
      missing = λ d h k none. absurd (true≢false (sym (s.are d h k).there ∙ none));
      part = λ d h k. takes_whole _ _ (files_of (against c.args.texts.now) c.args.maildrop.now d) (taken d h k);
      last = inr (λ d h k. (taken d h k, subst (WritesPart was is) (report d h k) w.part));
      settled_first = inr (t.settled refl);
      cause = tt;
    }
