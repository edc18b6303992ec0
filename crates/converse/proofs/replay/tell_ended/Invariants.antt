use Rattle.std.proofs.Common.{take}
use Rattle.std.specs.Io.KnownBytes.{Appends}
use Rattle.std.specs.List.{filter}
use Rattle.office.specs.Events.{Trace}
use Rattle.office.specs.Stands.{StandsFor}
use Rattle.converse.specs.Told.{ended_lines, has_ended}
use Rattle.converse.proofs.replay.tell_ended.Given as goal

-- those that ended of the connections that came were printed
abbrev pub invariant-loop-number : goal.invariant-loop-number
invariant-loop-number g l = (T : Trace) → StandsFor g.V.Vault.holds l.office T
    → Appends (g.W.Write.contents l.initial.out) (g.W.Write.contents l.out) (ended_lines (filter (has_ended T) (take l.number-index l.number-items)))
