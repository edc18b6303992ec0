use Rattle.std.proofs.Common.{◌≡◌, ◌≤◌, true, sym, subst, ◌∙◌}
use Rattle.vault.specs.declared.fault.VaultFault.TheVariants as fault
use Rattle.vault.specs.Calls.{has_grown}
use Rattle.sqlvault.specs.Opened.{Opened}
use Rattle.sqlvault.proofs.FaultLemmas.{same_fault}
use Rattle.sqlvault.proofs.sql_vault.SqlVault.told.Goals as goal

pub returns-in-Err-clause-counted : goal.returns-in-Err-clause-counted
returns-in-Err-clause-counted g c = record {
  kept = subst (λ (o : Opened g.row.S.Denot). o.faults ≤ c.tell.new.faults) c.self.view_is c.tell.ensures.kept;
  cause = λ same. subst (λ (o : Opened g.row.S.Denot). has_grown o.faults c.tell.new.faults ≡ true) c.self.view_is
      (c.tell.ensures.grown (sym c.tell.ensures.told ∙ same_fault c.tell.result fault.Store same));
}
