use Rattle.std.proofs.Common.{◌≡◌, ℕ, List, ◌++◌, take, drop}
use Rattle.mailtext.specs.Streams.{top_from}
use Rattle.mailtext.proofs.top_cut.TopCut.feed.Given as goal

abbrev pub invariant-loop-i : goal.invariant-loop-i
invariant-loop-i l = (more : List ℕ) → top_from l.fn.self (l.piece ++ more) ≡ take l.i l.piece ++ top_from l.self (drop l.i l.piece ++ more)
