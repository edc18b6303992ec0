-- A kept answer leaves the vault inside as it was; any other looks at it.
use Rattle.std.proofs.Common.{rules, sym, subst}
use Rattle.vault.proofs.CallLemmas.{looks_self}
use Rattle.recent.specs.Recalling.{Recalling, HoldsFitting}
use Rattle.recent.proofs.Fitting.{told_so}
use Rattle.recent.proofs.Looks.{held_done, looks_inside}
use Rattle.recent.proofs.recent.RecentVault.heads.Goals as goal

pub returns-in-Some-clause-done : goal.returns-in-Some-clause-done
returns-in-Some-clause-done g c b held clean =
    let holds = subst (λ (r : Recalling g.row.V.Denot). HoldsFitting (g.V.Vault.holds r.vault) r.kept r.totals b) (sym c.self.view_is) held in
    record {
      answer = c.in-Some.ensures.heads b holds.fits;
      held = record { inside = holds.inside; fits = c.in-Some.ensures.fits b holds.fits; sums = holds.sums };
    }

pub returns-in-Some-clause-looks : goal.returns-in-Some-clause-looks
returns-in-Some-clause-looks g c =
    looks_inside g.V.Vault _ _ _ _ c.self.view_is
    (looks_self g.V.Vault _ _ (g.met.V.Vault.settled _))
    (λ b clean held. (returns-in-Some-clause-done g c b held clean).held)

pub returns-in-Ok-clause-done : goal.returns-in-Ok-clause-done
returns-in-Ok-clause-done g c b held clean =
    let holds = subst (λ (r : Recalling g.row.V.Denot). HoldsFitting (g.V.Vault.holds r.vault) r.kept r.totals b) (sym c.self.view_is) held in
    let it = c.in-Ok.ensures.done b holds.inside clean in
    record {
      answer = it.answer;
      held = record {
        inside = it.held;
        fits = c.keep.ensures b (told_so _ b _ _ it.answer c.as_slice.ensures.value) (c.recall.ensures.fits b holds.fits);
        sums = holds.sums;
      };
    }

pub returns-in-Ok-clause-looks : goal.returns-in-Ok-clause-looks
returns-in-Ok-clause-looks g c =
    looks_inside g.V.Vault _ _ _ _ c.self.view_is c.in-Ok.ensures.looks
    (λ b clean held. (returns-in-Ok-clause-done g c b held clean).held)

pub returns-in-Err-clause-done : goal.returns-in-Err-clause-done
returns-in-Err-clause-done g c = search rules

pub returns-in-Err-clause-looks : goal.returns-in-Err-clause-looks
returns-in-Err-clause-looks g c =
    looks_inside g.V.Vault _ _ _ _ c.self.view_is
    (rw c.after_change.ensures.answer c.in-Err.ensures.looks)
    (λ b clean held. held_done (returns-in-Err-clause-done g c b held clean))
