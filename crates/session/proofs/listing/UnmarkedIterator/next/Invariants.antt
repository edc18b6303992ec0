use Rattle.std.proofs.Common.{length, ◌-◌, ◌≡◌}
use Rattle.session.proofs.RowLemmas.{left_from}
use Rattle.session.proofs.listing.UnmarkedIterator.next.Given as goal

-- only marked rows were passed over
abbrev pub invariant-loop-self : goal.invariant-loop-self
invariant-loop-self l = left_from l.self-inside.rows.now l.self-inside.passed ≡ l.fn.self

abbrev pub decreases-loop-self : goal.decreases-loop-self
decreases-loop-self l = length l.self-inside.rows.now - l.self-inside.passed
