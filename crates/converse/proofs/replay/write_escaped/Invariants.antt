use Rattle.std.proofs.Common.{take}
use Rattle.std.specs.Io.KnownBytes.{Appends}
use Rattle.converse.specs.Escapes.{escaped}
use Rattle.converse.proofs.replay.write_escaped.Given as goal

-- the octets that came were written
abbrev pub invariant-loop-octet : goal.invariant-loop-octet
invariant-loop-octet g l =
    Appends (g.W.Write.contents l.initial.out) (g.W.Write.contents l.out) (escaped (take l.octet-index l.octets))
