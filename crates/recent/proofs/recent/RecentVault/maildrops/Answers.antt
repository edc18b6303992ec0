-- The totals are made from the rows, or given by the vault inside, which was only looked at.
use Rattle.std.proofs.Common.{rules, sym, subst}
use Rattle.vault.proofs.CallLemmas.{looks_ok, looks_once, looks_err, looks_last}
use Rattle.recent.specs.Recalling.{Recalling, HoldsFitting}
use Rattle.recent.proofs.Fitting.{told_rows, kept_rows}
use Rattle.recent.proofs.Looks.{held_done, looks_inside}
use Rattle.recent.proofs.recent.RecentVault.maildrops.Goals as goal

pub returns-in-Err-clause-done : goal.returns-in-Err-clause-done
returns-in-Err-clause-done g c = search rules

pub returns-in-Err-clause-looks : goal.returns-in-Err-clause-looks
returns-in-Err-clause-looks g c =
    looks_inside g.V.Vault _ _ _ _ c.self.view_is
    (rw c.after_change.ensures.answer (looks_err g.V.Vault c.in-Err.fault c.in-Err.ensures.looks))
    (λ b clean held. held_done (returns-in-Err-clause-done g c b held clean))

pub returns-in-Some-clause-done : goal.returns-in-Some-clause-done
returns-in-Some-clause-done g c b held clean =
    let holds = subst (λ (r : Recalling g.row.V.Denot). HoldsFitting (g.V.Vault.holds r.vault) r.kept r.totals b) (sym c.self.view_is) held in
    let t = c.in-Ok.ensures in
    let inside = t.looks.held b clean holds.inside in
    told_rows _ _ _ b _ inside holds.fits (t.answer b holds.inside clean holds.sums).so (g.met.V.Vault.sound c.count_kept.new.vault b inside clean) c.in-Some.ensures

pub returns-in-Some-clause-looks : goal.returns-in-Some-clause-looks
returns-in-Some-clause-looks g c =
    looks_inside g.V.Vault _ _ _ _ c.self.view_is
    (looks_ok g.V.Vault tt c.in-Some.totals c.in-Ok.ensures.looks)
    (λ b clean held. (returns-in-Some-clause-done g c b held clean).held)

pub returns-in-Ok-maildrops-clause-done : goal.returns-in-Ok-maildrops-clause-done
returns-in-Ok-maildrops-clause-done g c b held clean =
    let holds = subst (λ (r : Recalling g.row.V.Denot). HoldsFitting (g.V.Vault.holds r.vault) r.kept r.totals b) (sym c.self.view_is) held in
    let inside = c.count_kept.ensures.looks.held b (c.maildrops.ensures.looks.clean clean) holds.inside in
    let told = c.in-Ok-maildrops.ensures.done b inside clean in
    kept_rows _ _ _ b _ _ told holds.fits (g.met.V.Vault.sound c.maildrops.new.self b told.held clean) c.as_slice.ensures.value c.of.ensures.copy

pub returns-in-Ok-maildrops-clause-looks : goal.returns-in-Ok-maildrops-clause-looks
returns-in-Ok-maildrops-clause-looks g c =
    looks_inside g.V.Vault _ _ _ _ c.self.view_is
    (looks_last g.V.Vault (looks_once g.V.Vault c.in-Ok.ensures.looks (λ own. tt))
    c.in-Ok-maildrops.ensures.looks)
    (λ b clean held. (returns-in-Ok-maildrops-clause-done g c b held clean).held)

pub returns-in-Err-maildrops-clause-done : goal.returns-in-Err-maildrops-clause-done
returns-in-Err-maildrops-clause-done g c = search rules

pub returns-in-Err-maildrops-clause-looks : goal.returns-in-Err-maildrops-clause-looks
returns-in-Err-maildrops-clause-looks g c =
    looks_inside g.V.Vault _ _ _ _ c.self.view_is
    (rw c.after_change-in-Err-maildrops.ensures.answer
    (looks_last g.V.Vault (looks_once g.V.Vault c.in-Ok.ensures.looks (λ own. tt))
    c.in-Err-maildrops.ensures.looks))
    (λ b clean held. held_done (returns-in-Err-maildrops-clause-done g c b held clean))
