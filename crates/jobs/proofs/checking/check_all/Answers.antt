use Rattle.std.proofs.Common.{◌≡◌, ◌∙◌, inl, inr, refl, sym, ap, subst, arith, ℕ, List, [], Option, Result, Ok, Err, true, false}
use Rattle.sqlite.specs.Held.{state}
use Rattle.sqlite.specs.State.{HasCleanDisk}
use Rattle.vault.specs.declared.fault.VaultFault.{VaultFault}
use Rattle.vault.specs.declared.record.Receipt.{Receipt}
use Rattle.vault.specs.Calls.{has_grown}
use Rattle.vault.specs.Changes.{Contents}
use Rattle.sqlvault.specs.Clerks.{clerk_names}
use Rattle.sqlvault.specs.Stands.{Holds}
use Rattle.converse.specs.Causes.{IsExportEnd, IsRefusedOf}
use Rattle.converse.specs.Checked.{store_text, AreKnown}
use Rattle.converse.specs.Streams.{Writes, WritesPart, writes_failed}
use Rattle.converse.specs.Texts.{against, differing}
use Rattle.converse.proofs.ExportLemmas.{checks_ill, reports_fault}
use Rattle.converse.proofs.Exporting.{counts_on, look_refused, refused_since}
use Rattle.converse.proofs.Refusals.{clerks_known, refused_all}
use Rattle.jobs.specs.Checks.{held_against}
use Rattle.jobs.proofs.CheckLemmas.{Differ, Refuses, exports_still}
use Rattle.jobs.proofs.checking.check_all.Goals as goal

abbrev names_or : List (List ℕ) → Result (List (List ℕ)) VaultFault → List (List ℕ)
names_or these (Ok found) = found
names_or these (Err refused) = these

pub returns-in-Ok-clerk_names-clause-checks : goal.returns-in-Ok-clerk_names-clause-checks
returns-in-Ok-clerk_names-clause-checks g c =
    let rs = against c.in-Ok.texts in
    let t = c.check_store.ensures in
    let n = c.in-Ok-clerk_names.ensures in
    let Old : Contents → Type 0 = Holds (state g.S.Store c.args.vault.now.conn) in
    let Clean : Type 0 = HasCleanDisk (state g.S.Store c.check_store.new.vault.conn) in
    let found = λ (d : Contents) (h : Old d) (k : Clean). n.done d (c.in-Ok.ensures.held d h (n.looks.clean (t.still.clean k))) (t.still.clean k) in
    let same : (d : Contents) → Old d → Clean → c.as_slice.result.now ≡ clerk_names d.clerks =
    λ d h k. c.as_slice.ensures.value ∙ sym (ap (names_or []) (found d h k).answer) in
    let is : (d : Contents) → Old d → Clean → rs ≡ held_against c.args.compared d = λ d h k. c.in-Ok.ensures.told d h (n.looks.clean (t.still.clean k)) in
    record {
      told = λ well d h k.
          subst (λ (r : Option (List Receipt)). Writes (g.W.Sink.seen c.args.out.now) (g.W.Sink.seen c.check_store.new.out) (store_text c.args.file.now d (clerk_names d.clerks) r)) (is d h k)
          (subst (λ (names : List (List ℕ)). Writes (g.W.Sink.seen c.args.out.now) (g.W.Sink.seen c.check_store.new.out) (store_text c.args.file.now d names rs)) (same d h k)
          (t.checks.told well d (found d h k).held k));
      flushed = t.checks.flushed;
      intact = λ well d h k. subst (λ (r : Option (List Receipt)). differing r d ≡ []) (is d h k) (t.checks.intact well d (found d h k).held k);
      known = λ well d h k. clerks_known d.clerks;
      part = elim t.checks.part [
        | inl untouched ↦ inl untouched
        | inr part ↦ inr (λ d h k.
            subst (λ (r : Option (List Receipt)). WritesPart (g.W.Sink.seen c.args.out.now) (g.W.Sink.seen c.check_store.new.out) (store_text c.args.file.now d (clerk_names d.clerks) r)) (is d h k)
            (subst (λ (names : List (List ℕ)). WritesPart (g.W.Sink.seen c.args.out.now) (g.W.Sink.seen c.check_store.new.out) (store_text c.args.file.now d names rs)) (same d h k)
            (part d (found d h k).held k)))
      ];
    }

pub returns-in-Ok-clerk_names-clause-still : goal.returns-in-Ok-clerk_names-clause-still
returns-in-Ok-clerk_names-clause-still g c =
    let t = c.check_store.ensures.still in
    let n = c.in-Ok-clerk_names.ensures in
    record {
      held = λ d h clean. t.held d (n.done d (c.in-Ok.ensures.held d h (n.looks.clean (t.clean clean))) (t.clean clean)).held clean;
      clean = λ clean. c.in-Ok.ensures.clean (n.looks.clean (t.clean clean));
    }

pub returns-clause-still : goal.returns-clause-still
returns-clause-still g c = record {
  held = λ d h clean. (c.in-Err-clerk_names.ensures.done d (c.in-Ok.ensures.held d h (c.in-Err-clerk_names.ensures.looks.clean clean)) clean).held;
  clean = λ clean. c.in-Ok.ensures.clean (c.in-Err-clerk_names.ensures.looks.clean clean);
}

pub returns-in-Err-clause-checks : goal.returns-in-Err-clause-checks
returns-in-Err-clause-checks g c =
    let one = c.tell_fault.ensures.status in
    checks_ill _ _ _ _ _ _ _ _ _ _ (λ well. omega (arith, one, well)) (inl refl)

pub returns-clause-checks : goal.returns-clause-checks
returns-clause-checks g c =
    let status = c.tell_fault-in-Err-clerk_names.ensures.status in
    checks_ill _ _ _ _ _ _ _ _ _ _ (λ well. omega (arith, status, well)) (inl refl)

pub returns-in-Ok-clerk_names-clause-reports : goal.returns-in-Ok-clerk_names-clause-reports
returns-in-Ok-clerk_names-clause-reports g c =
    let t = c.check_store.ensures in
    let names = c.in-Ok-clerk_names.ensures in
    let texts = against c.in-Ok.texts in
    let First : Contents → Type 0 = Holds (state g.S.Store c.args.vault.now.conn) in
    let Mid : Contents → Type 0 = Holds (state g.S.Store c.clerk_names.new.self.conn) in
    let Clean : Type 0 = HasCleanDisk (state g.S.Store c.check_store.new.vault.conn) in
    let old = g.W.Sink.seen c.args.out.now in
    let new = g.W.Sink.seen c.check_store.new.out in
    let D : Type 0 = Differ Mid Clean c.args.file.now old new (λ d. texts) (λ d. c.as_slice.result.now) in
    let E : Type 0 = Differ First Clean c.args.file.now old new (held_against c.args.compared) (λ d. clerk_names d.clerks) in
    let P : VaultFault → Type 0 = λ e. (d : Contents) → Mid d → Clean → IsRefusedOf (AreKnown c.as_slice.result.now d) (has_grown c.clerk_names.new.self.faults c.check_store.new.vault.faults) e in
    let Q : VaultFault → Type 0 = Refuses First Clean (has_grown c.args.vault.now.faults c.check_store.new.vault.faults) in
    let at = λ (d : Contents) (h : First d) (k : Clean). names.done d (c.in-Ok.ensures.held d h (names.looks.clean (t.still.clean k))) (t.still.clean k) in
    let are : (d : Contents) → First d → Clean → c.as_slice.result.now ≡ clerk_names d.clerks = λ d h k. c.as_slice.ensures.value ∙ sym (ap (names_or []) (at d h k).answer) in
    record {
      bound = t.reports.bound;
      silent = t.reports.silent;
      why = λ one. let told = t.reports.why one in (
        told.0,
        exports_still D E false (writes_failed old new) P Q
            (λ w d h k.
            (let is = c.in-Ok.ensures.told d h (names.looks.clean (t.still.clean k)) in
            let it = w d (at d h k).held k in (
              subst (λ (r : Option (List Receipt)). differing r d ≡ [] → ⊥) is it.0,
              subst (λ (r : Option (List Receipt)). Writes old new (store_text c.args.file.now d (clerk_names d.clerks) r)) is
                  (subst (λ (ns : List (List ℕ)). Writes old new (store_text c.args.file.now d ns texts)) (are d h k) it.1),
            )))
            (λ e w d h k.
            (let known : AreKnown c.as_slice.result.now d = subst (λ (ns : List (List ℕ)). AreKnown ns d) (sym (are d h k)) (clerks_known d.clerks) in
            refused_all (AreKnown c.as_slice.result.now d) known c.args.vault.now.faults c.clerk_names.new.self.faults c.check_store.new.vault.faults
            (counts_on _ _ _ c.in-Ok.ensures.counted names.counted.kept) e (w d (at d h k).held k)))
            told.0 told.1,
        told.2,
      );
    }

pub returns-in-Err-clause-reports : goal.returns-in-Err-clause-reports
returns-in-Err-clause-reports g c =
    let out = g.W.Sink.seen c.args.out.now in
    let Old : Contents → Type 0 = Holds (state g.S.Store c.args.vault.now.conn) in
    let Clean : Type 0 = HasCleanDisk (state g.S.Store c.texts_of.new.vault.conn) in
    let Ends = IsExportEnd (Differ Old Clean c.args.file.now out out (held_against c.args.compared) (λ d. clerk_names d.clerks)) false (writes_failed out out)
    (Refuses Old Clean (has_grown c.args.vault.now.faults c.texts_of.new.vault.faults)) in
    reports_fault _ _ _ _ _ c.from.result c.tell_fault.ensures.status (subst Ends (sym c.from.ensures) c.in-Err.ensures.cause) c.tell_fault.ensures.line

pub returns-clause-reports : goal.returns-clause-reports
returns-clause-reports g c =
    let f0 = c.args.vault.now.faults in
    let f1 = c.texts_of.new.vault.faults in
    let f2 = c.clerk_names.new.self.faults in
    let seen = g.W.Sink.seen c.args.out.now in
    let First : Contents → Type 0 = Holds (state g.S.Store c.args.vault.now.conn) in
    let Clean : Type 0 = HasCleanDisk (state g.S.Store c.clerk_names.new.self.conn) in
    let Ends = IsExportEnd (Differ First Clean c.args.file.now seen seen (held_against c.args.compared) (λ d. clerk_names d.clerks)) false
    (writes_failed seen seen) (Refuses First Clean (has_grown f0 f2)) in
    let n = c.in-Err-clerk_names in
    reports_fault _ _ _ _ _ c.from-in-Err-clerk_names.result c.tell_fault-in-Err-clerk_names.ensures.status
    (subst Ends (sym c.from-in-Err-clerk_names.ensures) (λ d h k.
    refused_since true f0 f1 f2 c.in-Ok.ensures.counted n.fault
    (look_refused true (has_grown f1 f2) (clerk_names d.clerks) n.fault (n.ensures.done d (c.in-Ok.ensures.held d h (n.ensures.looks.clean k)) k).answer (λ e. n.ensures.counted.cause (ap Err e)))))
    c.tell_fault-in-Err-clerk_names.ensures.line
