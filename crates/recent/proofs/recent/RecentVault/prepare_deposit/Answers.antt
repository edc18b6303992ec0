-- What the vault inside keeps, and what is kept of its answers.
use Rattle.recent.proofs.Looks.{looks_after}
use Rattle.recent.proofs.recent.RecentVault.prepare_deposit.Goals as goal

pub returns-clause-answer : goal.returns-clause-answer
returns-clause-answer g c = rw c.after_look.ensures.answer c.prepare_deposit-part.ensures.answer

pub returns-clause-looks : goal.returns-clause-looks
returns-clause-looks g c =
    rw c.after_look.ensures.answer
    (looks_after g.V.Vault _ _ _ _ c.self.view_is c.prepare_deposit-part.ensures.looks
    c.after_look.ensures.kept c.after_look.ensures.totals)
