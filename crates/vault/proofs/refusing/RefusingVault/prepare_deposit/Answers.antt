-- The refused call leaves the vault inside as it was; any other leaves what that one leaves.
use Rattle.std.proofs.Common.{rules}
use Rattle.vault.proofs.CallLemmas.{looks_none, looks_once}
use Rattle.vault.proofs.RefusingLemmas.{looks_through}
use Rattle.vault.proofs.refusing.RefusingVault.prepare_deposit.Goals as goal

pub returns-then-is_due-clause-looks : goal.returns-then-is_due-clause-looks
returns-then-is_due-clause-looks g c =
    looks_through g.V.Vault _ _ _ _ c.self.view_is
    (looks_none g.V.Vault c.self.inside.vault (g.met.V.Vault.settled c.self.inside.vault))
    (search rules)

pub returns-clause-looks : goal.returns-clause-looks
returns-clause-looks g c =
    looks_through g.V.Vault _ _ _ _ c.self.view_is
    (looks_once g.V.Vault c.prepare_deposit.ensures.looks (λ own. own)) (search rules)
