use Rattle.std.proofs.Common.{◌≡◌, sym, subst, List, [], Option}
use Rattle.sqlite.specs.Held.{state}
use Rattle.sqlite.specs.State.{HasCleanDisk}
use Rattle.vault.specs.declared.fault.VaultFault.{VaultFault}
use Rattle.vault.specs.declared.record.Receipt.{Receipt}
use Rattle.vault.specs.Records.{is_one_of}
use Rattle.vault.specs.Calls.{has_grown}
use Rattle.vault.specs.Changes.{Contents}
use Rattle.sqlvault.specs.Stands.{Holds}
use Rattle.converse.specs.Causes.{IsExportEnd, IsRefused}
use Rattle.converse.specs.Exported.{files_of, report_text, Takes}
use Rattle.converse.specs.Streams.{Writes, writes_failed}
use Rattle.converse.specs.Texts.{against, differing_in}
use Rattle.converse.proofs.ExportLemmas.{exports_since, exports_none, reports_fault}
use Rattle.converse.proofs.Exporting.{refused_since, refused_there}
use Rattle.jobs.specs.Checks.{held_against}
use Rattle.jobs.proofs.CheckLemmas.{exports_still}
use Rattle.jobs.proofs.exporting.export_from.Goals as goal

pub returns-in-Ok-clause-exports : goal.returns-in-Ok-clause-exports
returns-in-Ok-clause-exports g c =
    exports_since _ _ _ _ _ _ _ _ _ _ (against c.in-Ok.texts) (held_against c.args.compared) _ _
    (λ d h clean. let k1 = c.export.ensures.still.clean clean in (c.in-Ok.ensures.held d h k1, c.in-Ok.ensures.told d h k1)) c.export.ensures.exports

pub returns-in-Err-clause-exports : goal.returns-in-Err-clause-exports
returns-in-Err-clause-exports g c = exports_none _ _ _ _ _ _ _ _ _ _ c.tell_fault.ensures.status

pub returns-in-Ok-clause-reports : goal.returns-in-Ok-clause-reports
returns-in-Ok-clause-reports g c =
    let rs = against c.in-Ok.texts in
    let m = c.args.maildrop.now in
    let f0 = c.args.vault.now.faults in
    let f1 = c.texts_of.new.vault.faults in
    let f2 = c.export.new.vault.faults in
    let Done : Option (List Receipt) → Contents → Type 0 = λ r d. (differing_in r m d ≡ [] → ⊥)
    × Takes (g.F.Folder.files c.args.folder.now) (g.F.Folder.files c.export.new.folder) (files_of r m d)
    × Writes (g.W.Sink.seen c.args.out.now) (g.W.Sink.seen c.export.new.out) (report_text r m d) in
    let D : Type 0 = (d : Contents) → Holds (state g.S.Store c.texts_of.new.vault.conn) d → HasCleanDisk (state g.S.Store c.export.new.vault.conn) → Done rs d in
    let E : Type 0 = (d : Contents) → Holds (state g.S.Store c.args.vault.now.conn) d → HasCleanDisk (state g.S.Store c.export.new.vault.conn) → Done (held_against c.args.compared d) d in
    let P : VaultFault → Type 0 = λ e. (d : Contents) → Holds (state g.S.Store c.texts_of.new.vault.conn) d → HasCleanDisk (state g.S.Store c.export.new.vault.conn)
    → IsRefused (is_one_of m d.maildrops) (has_grown f1 f2) e in
    let Q : VaultFault → Type 0 = λ e. (d : Contents) → Holds (state g.S.Store c.args.vault.now.conn) d → HasCleanDisk (state g.S.Store c.export.new.vault.conn)
    → IsRefused (is_one_of m d.maildrops) (has_grown f0 f2) e in
    let put = has_grown (g.F.Folder.faults c.args.folder.now) (g.F.Folder.faults c.export.new.folder) in
    let written = writes_failed (g.W.Sink.seen c.args.out.now) (g.W.Sink.seen c.export.new.out) in
    let back = c.export.ensures.still.clean in
    record {
      bound = c.export.ensures.reports.bound;
      silent = c.export.ensures.reports.silent;
      why = λ one. let told = c.export.ensures.reports.why one in (
        told.0,
        exports_still D E put written P Q (λ w d h clean. subst (λ (r : Option (List Receipt)). Done r d) (c.in-Ok.ensures.told d h (back clean)) (w d (c.in-Ok.ensures.held d h (back clean)) clean))
            (λ e w d h clean. refused_since (is_one_of m d.maildrops) f0 f1 f2 c.in-Ok.ensures.counted e (w d (c.in-Ok.ensures.held d h (back clean)) clean))
            told.0 told.1,
        told.2,
      );
    }

pub returns-in-Err-clause-reports : goal.returns-in-Err-clause-reports
returns-in-Err-clause-reports g c =
    let m = c.args.maildrop.now in
    let f0 = c.args.vault.now.faults in
    let f1 = c.texts_of.new.vault.faults in
    let Done : Option (List Receipt) → Contents → Type 0 = λ r d. (differing_in r m d ≡ [] → ⊥)
    × Takes (g.F.Folder.files c.args.folder.now) (g.F.Folder.files c.args.folder.now) (files_of r m d)
    × Writes (g.W.Sink.seen c.args.out.now) (g.W.Sink.seen c.args.out.now) (report_text r m d) in
    let E : Type 0 = (d : Contents) → Holds (state g.S.Store c.args.vault.now.conn) d → HasCleanDisk (state g.S.Store c.texts_of.new.vault.conn) → Done (held_against c.args.compared d) d in
    let Q : VaultFault → Type 0 = λ e. (d : Contents) → Holds (state g.S.Store c.args.vault.now.conn) d → HasCleanDisk (state g.S.Store c.texts_of.new.vault.conn)
    → IsRefused (is_one_of m d.maildrops) (has_grown f0 f1) e in
    let put = has_grown (g.F.Folder.faults c.args.folder.now) (g.F.Folder.faults c.args.folder.now) in
    let written = writes_failed (g.W.Sink.seen c.args.out.now) (g.W.Sink.seen c.args.out.now) in
    reports_fault _ _ _ _ _ c.from.result c.tell_fault.ensures.status
    (subst (IsExportEnd E put written Q) (sym c.from.ensures) (λ d h clean. refused_there (is_one_of m d.maildrops) (has_grown f0 f1) c.in-Err.fault (c.in-Err.ensures.cause d h clean)))
    c.tell_fault.ensures.line

pub returns-in-Ok-clause-still : goal.returns-in-Ok-clause-still
returns-in-Ok-clause-still g c = record {
  held = λ d h clean. c.export.ensures.still.held d (c.in-Ok.ensures.held d h (c.export.ensures.still.clean clean)) clean;
  clean = λ clean. c.in-Ok.ensures.clean (c.export.ensures.still.clean clean);
}
