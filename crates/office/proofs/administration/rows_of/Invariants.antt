use Rattle.std.proofs.Common.{◌≡◌, map, take}
use Rattle.office.specs.Seen.{row_seen}
use Rattle.office.specs.VaultAnswers.{row_of_head}
use Rattle.office.proofs.administration.rows_of.Given as goal

abbrev pub invariant-loop-head : goal.invariant-loop-head
invariant-loop-head l = map row_seen l.rows.items ≡ map row_of_head (take l.head-index l.heads)
