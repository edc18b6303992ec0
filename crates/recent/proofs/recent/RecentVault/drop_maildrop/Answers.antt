-- The heads of the other maildrops fit what is left.
use Rattle.std.proofs.Common.{sym, subst}
use Rattle.recent.specs.Recalling.{Recalling, HoldsFitting}
use Rattle.recent.proofs.Fitting.{drop_fits}
use Rattle.recent.proofs.recent.RecentVault.drop_maildrop.Goals as goal

pub returns-clause-done : goal.returns-clause-done
returns-clause-done g c b held clean =
    let holds = subst (λ (r : Recalling g.row.V.Denot). HoldsFitting (g.V.Vault.holds r.vault) r.kept r.totals b) (sym c.self.view_is) held in
    rw (c.after_drop.ensures.answer, c.after_drop.ensures.kept, c.after_drop.ensures.totals)
    (drop_fits _ _ b _ _ holds.fits (c.drop_maildrop-gone.ensures.done b holds.inside clean))
