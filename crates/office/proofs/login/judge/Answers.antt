use Rattle.std.proofs.Common.{rules}
use Rattle.vault.proofs.CallLemmas.{looks_once, looks_last}
use Rattle.office.proofs.login.judge.Goals as goal

pub returns-clause-said : goal.returns-clause-said
returns-clause-said g c = search rules

pub returns-clause-looks : goal.returns-clause-looks
returns-clause-looks g c =
    looks_last g.V.Vault (looks_once g.V.Vault c.in_ok-is_admitted.ensures.looks (λ own. tt))
    c.enter.ensures.looks
