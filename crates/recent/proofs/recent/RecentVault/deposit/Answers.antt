-- The totals fit what is left, with that of the maildrop stale.
use Rattle.std.proofs.Common.{sym, subst}
use Rattle.recent.specs.Recalling.{Recalling, HoldsFitting}
use Rattle.recent.proofs.Fitting.{deposit_fits}
use Rattle.recent.proofs.recent.RecentVault.deposit.Goals as goal

pub returns-clause-done : goal.returns-clause-done
returns-clause-done g c b held clean =
    let holds = subst (λ (r : Recalling g.row.V.Denot). HoldsFitting (g.V.Vault.holds r.vault) r.kept r.totals b) (sym c.self.view_is) held in
    rw (c.after_mail.ensures.answer, c.after_mail.ensures.kept, c.after_mail.ensures.totals)
    (deposit_fits _ _ _ b _ _ _ _ _ holds.fits holds.sums (c.deposit-deposited.ensures.done b holds.inside clean))
