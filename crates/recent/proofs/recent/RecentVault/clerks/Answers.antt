-- What the vault inside keeps, and what is kept of its answers.
use Rattle.std.proofs.Common.{rules}
use Rattle.recent.proofs.Looks.{held_done, looks_inside}
use Rattle.recent.proofs.recent.RecentVault.clerks.Goals as goal

pub returns-clause-done : goal.returns-clause-done
returns-clause-done g c = search rules

pub returns-clause-looks : goal.returns-clause-looks
returns-clause-looks g c =
    looks_inside g.V.Vault _ _ _ _ c.self.view_is
    (rw c.after_look.ensures.answer c.clerks-listed.ensures.looks)
    (λ b clean held. held_done (returns-clause-done g c b held clean))
