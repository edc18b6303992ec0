use Rattle.std.proofs.Common.{map}
use Rattle.office.specs.Stands.{vault_of}
use Rattle.converse.specs.Played.{HasPlayed, WithCause}
use Rattle.converse.specs.Script.{line_seen}
use Rattle.converse.proofs.Playing.{comes_kept}
use Rattle.converse.proofs.Stopping.{played_in_part}
use Rattle.converse.proofs.replay.play_over.Goals as goal

pub returns-in-Ok-clause-played : goal.returns-in-Ok-clause-played
returns-in-Ok-clause-played g c = λ well T st clean.
    comes_kept g.V.Vault.holds c.play-played.new.office _ _ _
    (WithCause (g.V.Vault.faults (vault_of c.args.office.now)) (g.V.Vault.faults (vault_of c.play-played.new.office)) T (HasPlayed T (map line_seen c.args.lines.now))) c.in-Ok.ensures.bytes
    (c.in_default.ensures.played T st clean)

pub returns-in-Err-clause-kept : goal.returns-in-Err-clause-kept
returns-in-Err-clause-kept g c = c.in-Err.ensures.broken

pub returns-in-Ok-clause-kept : goal.returns-in-Ok-clause-kept
returns-in-Ok-clause-kept g c = played_in_part (map line_seen c.args.lines.now) c.in_default.ensures.played

pub returns-in-Err-flushed-clause-kept : goal.returns-in-Err-flushed-clause-kept
returns-in-Err-flushed-clause-kept g c = played_in_part (map line_seen c.args.lines.now) c.in_default.ensures.played
