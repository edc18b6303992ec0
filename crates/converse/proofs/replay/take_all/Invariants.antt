use Rattle.std.proofs.Common.{◌≤◌}
use Rattle.office.specs.Events.{Trace}
use Rattle.office.specs.Seen.{outcome_seen}
use Rattle.office.specs.Stands.{StandsFor, vault_of}
use Rattle.converse.specs.Played.{ComesTo, WithCause}
use Rattle.converse.proofs.Playing.{TakesSoFar}
use Rattle.converse.proofs.replay.take_all.Given as goal

-- all was taken, turn by turn
abbrev pub invariant-loop : goal.invariant-loop
invariant-loop g l = record {
  taken : (T : Trace) → StandsFor g.V.Vault.holds l.fn.office T → g.V.Vault.is_clean (vault_of l.office)
      → ComesTo g.V.Vault.holds l.office (g.W.Write.contents l.fn.out) (g.W.Write.contents l.out)
      (WithCause (g.V.Vault.faults (vault_of l.fn.office)) (g.V.Vault.faults (vault_of l.office)) T (TakesSoFar T l.number (outcome_seen l.outcome)));
  counted : g.V.Vault.faults (vault_of l.fn.office) ≤ g.V.Vault.faults (vault_of l.office);
  clean : g.V.Vault.is_clean (vault_of l.office) → g.V.Vault.is_clean (vault_of l.fn.office);
}
