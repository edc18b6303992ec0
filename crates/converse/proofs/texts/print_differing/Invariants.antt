use Rattle.std.proofs.Common.{take}
use Rattle.std.specs.List.{flat_map}
use Rattle.std.specs.Io.KnownBytes.{Appends}
use Rattle.converse.specs.Texts.{head_line}
use Rattle.converse.proofs.texts.print_differing.Given as goal

-- the heads that came were told
abbrev pub invariant-loop-head : goal.invariant-loop-head
invariant-loop-head g l =
    Appends (g.W.Write.contents l.initial.out) (g.W.Write.contents l.out) (flat_map (head_line l.maildrop) (take l.head-index l.heads))
