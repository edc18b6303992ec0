use Rattle.std.proofs.Common.{◌≤◌, [], map, take}
use Rattle.office.specs.Events.{Trace}
use Rattle.office.specs.Stands.{StandsFor, vault_of}
use Rattle.converse.specs.Played.{ComesTo, WithCause, Plays, point}
use Rattle.converse.specs.Script.{line_seen}
use Rattle.converse.proofs.replay.play.Given as goal

-- the lines that came were played
abbrev pub invariant-loop-line : goal.invariant-loop-line
invariant-loop-line g l = record {
  played : (T : Trace) → StandsFor g.V.Vault.holds l.fn.office T → g.V.Vault.is_clean (vault_of l.office)
      → ComesTo g.V.Vault.holds l.office (g.W.Write.contents l.fn.out) (g.W.Write.contents l.out)
      (WithCause (g.V.Vault.faults (vault_of l.fn.office)) (g.V.Vault.faults (vault_of l.office)) T
      (λ printed U. Plays (point T []) (map line_seen (take l.line-index l.lines)) printed (point U l.known.items)));
  counted : g.V.Vault.faults (vault_of l.fn.office) ≤ g.V.Vault.faults (vault_of l.office);
  clean : g.V.Vault.is_clean (vault_of l.office) → g.V.Vault.is_clean (vault_of l.fn.office);
}
