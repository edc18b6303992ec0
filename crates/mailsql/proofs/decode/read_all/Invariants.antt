use Rattle.std.proofs.Common.{◌≡◌, map, take}
use Rattle.mailsql.proofs.decode.read_all.Given as goal

abbrev pub invariant-loop-row : goal.invariant-loop-row
invariant-loop-row g l = l.all.items ≡ map g.T.Stored.stored (take l.row-index l.rows)
