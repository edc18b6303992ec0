use Rattle.std.proofs.Common.{length}
use Rattle.journal.proofs.message_ids.+is_literal.Given as goal

abbrev pub decreases-is_literal : goal.decreases-is_literal
decreases-is_literal l = length l.text.now
