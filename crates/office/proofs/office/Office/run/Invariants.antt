use Rattle.std.proofs.Common.{◌≤◌, take}
use Rattle.office.specs.Events.{Trace}
use Rattle.office.specs.Stands.{StandsFor, vault_of}
use Rattle.office.specs.Runs.{Ran}
use Rattle.office.proofs.office.Office.run.Given as goal

abbrev pub invariant-loop-done : goal.invariant-loop-done
invariant-loop-done g l = record {
  ran : (T : Trace) → StandsFor g.V.Vault.holds l.fn.self T → g.V.Vault.is_clean (vault_of l.self)
      → Ran g.V.Vault.holds g.V.Vault.faults g.V.Vault.is_up g.V.Vault.may_leave (take l.done l.events) l.steps.items T l.fn.self l.self;
  counted : g.V.Vault.faults (vault_of l.fn.self) ≤ g.V.Vault.faults (vault_of l.self);
  clean : g.V.Vault.is_clean (vault_of l.self) → g.V.Vault.is_clean (vault_of l.fn.self);
}
