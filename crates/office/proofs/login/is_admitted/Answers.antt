use Rattle.std.proofs.Common.{rules}
use Rattle.vault.proofs.CallLemmas.{looks_ok, looks_as}
use Rattle.office.proofs.login.is_admitted.Goals as goal

pub returns-in-Some-clause-said : goal.returns-in-Some-clause-said
returns-in-Some-clause-said g c = search rules

pub returns-in_err-credential-clause-looks : goal.returns-in_err-credential-clause-looks
returns-in_err-credential-clause-looks g c =
    looks_as g.V.Vault c.from_residual.result c.in_err-credential.ensures.looks
    (λ is. search rules) (λ own. search rules)

pub returns-in-None-clause-looks : goal.returns-in-None-clause-looks
returns-in-None-clause-looks g c = looks_ok g.V.Vault _ _ c.in_ok-credential.ensures.looks

pub returns-in-Some-clause-looks : goal.returns-in-Some-clause-looks
returns-in-Some-clause-looks g c = looks_ok g.V.Vault _ _ c.in_ok-credential.ensures.looks
