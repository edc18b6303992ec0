use Rattle.std.proofs.Common.{take}
use Rattle.std.specs.List.{flat_map}
use Rattle.std.specs.Io.KnownBytes.{Appends}
use Rattle.converse.specs.Checked.{maildrop_line}
use Rattle.converse.proofs.check_store.print_totals.Given as goal

-- the maildrops that came were printed
abbrev pub invariant-loop-total : goal.invariant-loop-total
invariant-loop-total g l =
    Appends (g.W.Write.contents l.initial.out) (g.W.Write.contents l.out) (flat_map maildrop_line (take l.total-index l.totals))
