-- The vault was only looked at, and rows that fit still do.
use Rattle.recent.proofs.Looks.{CountsSoFar}
use Rattle.recent.proofs.totals.count_all.Given as goal

abbrev pub invariant-loop-row : goal.invariant-loop-row
invariant-loop-row g l = CountsSoFar g.V.Vault l.initial.vault l.vault l.initial.rows l.rows
