-- If nothing is kept, nothing is asked.
use Rattle.vault.proofs.CallLemmas.{looks_self}
use Rattle.recent.proofs.totals.count_kept.Goals as goal

pub returns-in-None-clause-looks : goal.returns-in-None-clause-looks
returns-in-None-clause-looks g c =
    looks_self g.V.Vault c.args.vault.now tt (g.met.V.Vault.settled c.args.vault.now)
