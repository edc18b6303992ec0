use Rattle.vault.proofs.CallLemmas.{looks_once}
use Rattle.office.proofs.reading.Reading.read.Goals as goal

pub returns-in-Ok-clause-looks : goal.returns-in-Ok-clause-looks
returns-in-Ok-clause-looks g c = looks_once g.V.Vault c.page.ensures.looks (λ none. absurd none)

pub returns-in-Ok-2-clause-looks : goal.returns-in-Ok-2-clause-looks
returns-in-Ok-2-clause-looks g c =
    looks_once g.V.Vault c.in-Ok-2.ensures.looks (λ own. tt)

pub returns-in-Err-NoMemory-clause-looks : goal.returns-in-Err-NoMemory-clause-looks
returns-in-Err-NoMemory-clause-looks g c =
    looks_once g.V.Vault c.page.ensures.looks (λ none. absurd none)

pub returns-in-Err-clause-looks : goal.returns-in-Err-clause-looks
returns-in-Err-clause-looks g c = looks_once g.V.Vault c.page.ensures.looks (λ none. absurd none)
