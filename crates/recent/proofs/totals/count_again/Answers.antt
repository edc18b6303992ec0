-- A fresh row asks nothing; a stale one asks for the heads alone.
use Rattle.vault.proofs.CallLemmas.{looks_self, looks_ok, looks_err}
use Rattle.recent.proofs.totals.count_again.Goals as goal

pub returns-then-not-row-clause-looks : goal.returns-then-not-row-clause-looks
returns-then-not-row-clause-looks g c =
    looks_self g.V.Vault c.args.vault.now tt (g.met.V.Vault.settled c.args.vault.now)

pub returns-in-Ok-clause-looks : goal.returns-in-Ok-clause-looks
returns-in-Ok-clause-looks g c = looks_ok g.V.Vault c.in-Ok.heads tt c.in-Ok.ensures.looks

pub returns-in-Err-clause-looks : goal.returns-in-Err-clause-looks
returns-in-Err-clause-looks g c = looks_err g.V.Vault c.in-Err.fault c.in-Err.ensures.looks
