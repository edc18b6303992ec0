use Rattle.vault.proofs.CallLemmas.{looks_self}
use Rattle.office.proofs.quit.prepare.Goals as goal

pub returns-in-Err-clause-looks : goal.returns-in-Err-clause-looks
returns-in-Err-clause-looks g c = looks_self g.V.Vault _ _ (g.met.V.Vault.settled _)
