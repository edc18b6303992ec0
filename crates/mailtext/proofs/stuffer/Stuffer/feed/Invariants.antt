use Rattle.std.proofs.Common.{◌≡◌, ◌≤◌, ◌+◌, ◌*◌, ◌-◌, ℕ, List, ◌++◌, take, drop, length}
use Rattle.mailtext.specs.Streams.{stuffed_from, owed_dots}
use Rattle.mailtext.proofs.stuffer.Stuffer.feed.Given as goal

abbrev pub invariant-loop-taken : goal.invariant-loop-taken
invariant-loop-taken l = record {
  within : l.taken ≤ length l.piece;
  room : l.put ≤ length l.out;
  size : length l.out ≡ length l.fn.out;
  grows : l.taken ≤ l.put;
  dots : l.put + owed_dots l.self ≤ 2 * l.taken + 1;
  sent : (more : List ℕ) → stuffed_from l.fn.self (l.piece ++ more) ≡ take l.put l.out ++ stuffed_from l.self (drop l.taken l.piece ++ more);
  behind : drop l.put l.out ≡ drop l.put l.fn.out;
}

abbrev pub decreases-loop-taken : goal.decreases-loop-taken
decreases-loop-taken l = length l.out - l.put
