use Rattle.std.proofs.Common.{length}
use Rattle.proxy.proofs.line.+are_digits_behind.Given as goal

abbrev pub decreases-are_digits_behind : goal.decreases-are_digits_behind
decreases-are_digits_behind l = length l.digits.now
