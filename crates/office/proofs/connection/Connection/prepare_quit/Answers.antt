use Rattle.vault.proofs.CallLemmas.{looks_self}
use Rattle.office.proofs.connection.Connection.prepare_quit.Goals as goal

pub returns-in-None-clause-looks : goal.returns-in-None-clause-looks
returns-in-None-clause-looks g c = looks_self g.V.Vault _ _ (g.met.V.Vault.settled _)
